-- Numbers copied one after the other.
use Prim.Native.Nat.{ℕ, ◌+◌, ◌<◌, ◌≤◌}
use native.Mathlib.Omega.{arith}
use native.Mathlib.Numerals.{add-one}
use mathlib.Core.Path.{◌≡◌, refl, ap, ◌∙◌}
use mathlib.Core.List.{List}
use lib.ListN.{length, get_or, take, set, length-set}
use lib.Seq.{paste, paste-zero, paste-suc}
use Rattle.image_format.specs.Output.{written}
use Rattle.image_format.proofs.Written.{written-paste}

-- a loop that has copied j of the first n numbers of s to a place of l
pub record Copied (l : List ℕ) (at : ℕ) (s : List ℕ) (n : ℕ) (m : List ℕ) (j : ℕ) : Type 0 where
  pub most : j ≤ n
  pub fits : at + n ≤ length l
  pub there : n ≤ length s
  pub same : length m ≡ length l
  pub is : m ≡ paste l at s j

pub copied_none : {l : List ℕ} {at : ℕ} {s : List ℕ} {n : ℕ} → at + n ≤ length l → n ≤ length s → Copied l at s n l 0
copied_none {l} {at} {s} h k = record { most = omega arith; fits = h; there = k; same = refl; is = paste-zero l at s }

module _ {l : List ℕ} {at : ℕ} {s : List ℕ} {n : ℕ} {m : List ℕ} {j : ℕ} (c : Copied l at s n m j) where
  pub copied_next : {x : ℕ} → j < n → get_or s j 0 ≡ x → Copied l at s n (set m (at + j) x) (j + 1)
  copied_next {x} h e =
      record {
        most = omega arith;
        fits = c.fits;
        there = c.there;
        same = simp length-set c.same;
        is = rw (← e, c.is, add-one) (paste-suc l at s j 0 (omega (arith, c.fits)) (omega (arith, c.there)));
      }

  pub copied-done : n ≤ j → m ≡ paste l at s n
  copied-done h = c.is ∙ ap (paste l at s) (let e : j ≡ n = omega (arith, c.most) in e)

  pub copied-written : n ≤ j → m ≡ written l at (take n s)
  copied-written h = copied-done h ∙ written-paste l at s n c.there
