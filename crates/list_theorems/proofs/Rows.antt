-- The first capability of some rows that fits, by what fits.
use Rattle.std.specs.Prelude.{if◌then◌else◌}
use Prim.Native.Nat.{ℕ, zero, suc, ◌<◌}
use native.Mathlib.Omega.{arith}
use mathlib.Core.Bool.{Bool, true, false}
use mathlib.Core.List.{List, [], ◌∷◌}
use mathlib.Core.Path.{◌≡◌, refl, sym, ◌∙◌}
use lib.ListN.{get_or, take}
use Rattle.words.specs.Answer.{refuse, ok}
use Rattle.state.specs.declared.record.Capability.{Capability}
use Rattle.state.specs.Record.{no_capability}
use Rattle.capabilities.specs.Search.{first_of}
use Rattle.references.proofs.Passes.{never}

module _ (fits : Capability → Bool) where
  -- none does
  pub first-none : (n : ℕ) (cs : List Capability) → ((j : ℕ) → j < n → fits (get_or cs j no_capability) ≡ false) → first_of fits (take n cs) ≡ refuse 24
  unfolding first_of
  first-none zero [] h = refl
  first-none zero (c ∷ cs) h = refl
  first-none (suc n) [] h = refl
  first-none (suc n) (c ∷ cs) h = simp (h 0 (omega arith)) (first-none n cs (λ j l. h (suc j) (omega arith)))

  -- an empty row does not, row n does, and none before it
  module _ (empty : fits no_capability ≡ false) where
    pub first-at : (n : ℕ) (cs : List Capability) → ((j : ℕ) → j < n → fits (get_or cs j no_capability) ≡ false) → fits (get_or cs n no_capability) ≡ true
        → first_of fits (take (suc n) cs) ≡ ok (get_or cs n no_capability)
    unfolding first_of
    first-at zero [] h e = never (sym empty ∙ e)
    first-at zero (c ∷ cs) h e = simp e
    first-at (suc n) [] h e = never (sym empty ∙ e)
    first-at (suc n) (c ∷ cs) h e = simp (h 0 (omega arith)) (first-at n cs (λ j l. h (suc j) (omega arith)) e)

    -- row n does, whatever comes before it
    pub first_some : (n : ℕ) (cs : List Capability) → fits (get_or cs n no_capability) ≡ true → (x : ℕ) → first_of fits (take (suc n) cs) ≡ refuse x → ⊥
    unfolding first_of
    first_some zero [] e x r = never (sym empty ∙ e)
    first_some zero (c ∷ cs) e x r = let t = simp e at r in let z : ◌≡◌ {A = ℕ} 0 1 = cc in omega arith
    first_some (suc n) [] e x r = never (sym empty ∙ e)
    first_some (suc n) (c ∷ cs) e x r = by (fits c) (first_some n cs e x) r
      where
        by : (t : Bool) → (first_of fits (take (suc n) cs) ≡ refuse x → ⊥) → (if t then ok c else first_of fits (take (suc n) cs)) ≡ refuse x → ⊥
        by true rest q = let z : ◌≡◌ {A = ℕ} 0 1 = cc in omega arith
        by false rest q = rest q
