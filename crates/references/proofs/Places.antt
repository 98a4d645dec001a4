-- Where existing words lie: within the words of the machine, and each at a place of its own.
use Rattle.std.specs.Prelude.{if◌then◌else◌}
use Prim.Native.Nat.{ℕ, ◌+◌, ◌<◌}
use native.Mathlib.Omega.{arith}
use native.Mathlib.Decide.{ℕ_discrete, dec_lt}
use mathlib.Core.Bool.{Bool, true, false}
use mathlib.Core.List.{List}
use mathlib.Core.Path.{◌≡◌, refl, sym, ap, ◌∙◌, subst}
use borrow.Author.Tests.{eqb-true}
use lib.Dec.{eqb}
use lib.ListN.{get_or}
use Rattle.words.specs.Answer.{refuse, ok}
use Rattle.words.specs.declared.pointer.Pointer.{Pointer}
use Rattle.state.specs.declared.record.Machine.{Machine}
use Rattle.state.specs.Bases.{base_of, bases_of, words_in}
use Rattle.state.proofs.Sums.{base-apart, bases-at}
use Rattle.references.specs.declared.flag.Flag.{Flag}
use Rattle.references.specs.declared.flag.Access.{Access}
use Rattle.references.specs.Static.{exists}
use Rattle.references.specs.Reference.{index_of, accept, locate_of, reference_of}
use Rattle.references.specs.Check.{static_check, check}
use Rattle.references.proofs.Passes.{exists-facts, static-exists, verdict-exists}

-- the index of an existing word is below the sum of the lengths
pub index-lt : (lengths : List ℕ) (s w : ℕ) → exists lengths s w ≡ true → index_of (bases_of lengths) s w < words_in lengths
index-lt lengths s w e =
    let f = exists-facts lengths s w e in
    rw (bases-at lengths s f.0) (omega (arith, f.1, base-apart lengths s 16 f.0))

-- different existing words have different indices
pub index-apart : (lengths : List ℕ) (s w s' w' : ℕ) → exists lengths s w ≡ true → exists lengths s' w' ≡ true
    → index_of (bases_of lengths) s w ≡ index_of (bases_of lengths) s' w' → (s ≡ s') × (w ≡ w')
index-apart lengths s w s' w' e e' q = by (ℕ_discrete s s')
  where
    f : (s < 16) × (w < get_or lengths s 0)
    f = exists-facts lengths s w e

    f' : (s' < 16) × (w' < get_or lengths s' 0)
    f' = exists-facts lengths s' w' e'

    placed : base_of lengths s + w ≡ base_of lengths s' + w'
    placed = ap (λ (b : ℕ). b + w) (sym (bases-at lengths s f.0)) ∙ q ∙ ap (λ (b : ℕ). b + w') (bases-at lengths s' f'.0)

    by : Dec (s ≡ s') → (s ≡ s') × (w ≡ w')
    by (yes p) = (p, let b : base_of lengths s ≡ base_of lengths s' = ap (base_of lengths) p in omega (arith, placed))
    by (no n) = absurd (lower (dec_lt s s'))
      where
        lower : Dec (s < s') → ⊥
        lower (yes h) = omega (arith, base-apart lengths s s' h, f.1, placed)
        lower (no h) = omega (arith, base-apart lengths s' s (omega (arith, n, h)), f'.1, placed)

-- what an accepted check says: the verdict was 0, and the index is the word's
accepted : (n i k : ℕ) → accept n i ≡ ok k → (n ≡ 0) × (i ≡ k)
accepted n i k e = by (eqb n 0) refl e
  where
    by : (t : Bool) → eqb n 0 ≡ t → (if t then ok i else refuse n) ≡ ok k → (n ≡ 0) × (i ≡ k)
    by true q e = (eqb-true n 0 q, cc)
    by false q e = absurd (let z : ◌≡◌ {A = ℕ} 0 1 = cc in omega arith)

-- the index that a check gives is below the sum of the lengths
pub static-lt : (m : Machine) (d : ℕ) (f : Flag) (s w i : ℕ) → static_check m d f s w ≡ ok i → i < words_in m.layout.lengths
unfolding static_check locate_of
static-lt m d f s w i e =
    let t = accepted _ _ i e in
    subst (λ (k : ℕ). k < words_in m.layout.lengths) t.1 (index-lt _ s w (static-exists _ _ d f s w t.0))

pub check-lt : (m : Machine) (a : Access) (p : Pointer) (i : ℕ) → check m a p ≡ ok i → i < words_in m.layout.lengths
unfolding check reference_of
check-lt m a p i e =
    let t = accepted _ _ i e in
    subst (λ (k : ℕ). k < words_in m.layout.lengths) t.1 (index-lt _ p.segment p.word (verdict-exists _ _ _ _ _ _ a p t.0))
