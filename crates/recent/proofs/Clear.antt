-- Capabilities that match one reference have a word in common.
use Prim.Native.Nat.{ℕ, ◌+◌, ◌<◌, ◌≤◌}
use native.Mathlib.Omega.{arith}
use mathlib.Core.Bool.{Bool, true}
use mathlib.Core.Path.{◌≡◌, sym, ◌∙◌}
use borrow.Author.Tests.{eqb-true, leb-true, lt-ltb, eq-eqb}
use lib.Dec.{eqb, leb}
use Rattle.state.specs.declared.record.Capability.{Capability}
use Rattle.capabilities.specs.Search.{covers_of}
use Rattle.recent.specs.Entering.{shares}
use Rattle.recent.proofs.Logic.{both, join}

abbrev pub Clear : (Capability → Bool) → Type 0
Clear fits = (c d : Capability) → fits c ≡ true → fits d ≡ true → shares c d ≡ true

-- those that cover a run of at least one word share its first word
pub covers-clear : (segment word length : ℕ) → 1 ≤ length → (read write : Bool) → Clear (covers_of segment word length read write)
unfolding covers_of shares
covers-clear segment word length h read write c d e f =
    let a = both (eqb c.segment segment) _ e in
    let b = both (leb c.word word) _ a.1 in
    let g = both (leb (word + length) (c.word + c.length)) _ b.1 in
    let a' = both (eqb d.segment segment) _ f in
    let b' = both (leb d.word word) _ a'.1 in
    let g' = both (leb (word + length) (d.word + d.length)) _ b'.1 in
    let s : c.segment ≡ d.segment = eqb-true c.segment segment a.0 ∙ sym (eqb-true d.segment segment a'.0) in
    let lo : c.word < d.word + d.length = omega (arith, h, leb-true c.word word b.0, leb-true (word + length) (d.word + d.length) g'.0) in
    let hi : d.word < c.word + c.length = omega (arith, h, leb-true d.word word b'.0, leb-true (word + length) (c.word + c.length) g.0) in
    join (eq-eqb _ _ s) (join (lt-ltb _ _ lo) (lt-ltb _ _ hi))
