-- Laws of lists given by index.
use Prim.Native.Nat.{ℕ, zero, suc, ◌+◌, ◌<◌}
use native.Mathlib.Omega.{arith}
use native.Mathlib.Nat.{add-zero, zero-add, le_of_suc-le-suc}
use mathlib.Core.Path.{◌≡◌, refl, sym, ap, ◌∙◌}
use lib.ListN.{length, get_or}
use Rattle.snapshot_format.specs.Tabulate.{tabulate_from, tabulate}

module _ {A : Type 0} (f : ℕ → A) where
  from-length : (i n : ℕ) → length (tabulate_from i n f) ≡ n
  from-length i zero = refl
  from-length i (suc n) = ap suc (from-length (suc i) n)

  from_at : (d : A) (i n k : ℕ) → k < n → get_or (tabulate_from i n f) k d ≡ f (i + k)
  from_at d i zero k h = absurd (omega arith)
  from_at d i (suc n) zero h = ap f (sym (add-zero i))
  from_at d i (suc n) (suc k) h = from_at d (suc i) n k (le_of_suc-le-suc h) ∙ ap f (omega arith)

  pub tabulate-length : (n : ℕ) → length (tabulate n f) ≡ n
  unfolding tabulate
  tabulate-length n = from-length 0 n

  pub tabulate-at : (d : A) (n k : ℕ) → k < n → get_or (tabulate n f) k d ≡ f k
  unfolding tabulate
  tabulate-at d n k h = from_at d 0 n k h ∙ ap f (zero-add k)
