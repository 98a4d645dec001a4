-- The test of equality of two capabilities is equality, and what the derived == computes.
use mathlib.Core.Bool.{Bool, true, false, ◌&&◌, beq}
use mathlib.Core.Path.{◌≡◌, refl}
use borrow.Author.Tests.{eqb-true, eq-eqb}
use lib.Dec.{eqb}
use Rattle.state.specs.declared.record.Capability.{Capability}
use Rattle.recent.specs.Entering.{same, same_flag}
use Rattle.recent.proofs.Logic.{never, both, join}

flags : (a b : Bool) → same_flag a b ≡ true → a ≡ b
flags true true e = refl
flags true false e = never e
flags false true e = never e
flags false false e = refl

pub same-is : (c d : Capability) → same c d ≡ true → c ≡ d
unfolding same
same-is c d e =
    let w = both (eqb c.word d.word) _ e in
    let l = both (eqb c.length d.length) _ w.1 in
    let s = both (eqb c.segment d.segment) _ l.1 in
    let o = both (eqb c.source d.source) _ s.1 in
    let f = both (same_flag c.read d.read) _ o.1 in
    λ i. record {
      word = eqb-true c.word d.word w.0 i;
      length = eqb-true c.length d.length l.0 i;
      segment = eqb-true c.segment d.segment s.0 i;
      source = eqb-true c.source d.source o.0 i;
      read = flags c.read d.read f.0 i;
      write = flags c.write d.write f.1 i;
    }

pub same_self : (c : Capability) → same c c ≡ true
unfolding same
same_self c =
    join (eq-eqb c.word c.word refl) (join (eq-eqb c.length c.length refl) (join (eq-eqb c.segment c.segment refl)
    (join (eq-eqb c.source c.source refl) (join (flag c.read) (flag c.write)))))
  where
    flag : (b : Bool) → same_flag b b ≡ true
    flag true = refl
    flag false = refl

beq-same : (a b : Bool) → beq a b ≡ same_flag a b
beq-same true true = refl
beq-same true false = refl
beq-same false true = refl
beq-same false false = refl

pub derived-same : (c d : Capability)
    → (eqb c.word d.word && (eqb c.length d.length && (eqb c.segment d.segment && (eqb c.source d.source && (beq c.read d.read && beq c.write d.write))))) ≡ same c d
unfolding same
derived-same c d = simp (beq-same c.read d.read, beq-same c.write d.write)
