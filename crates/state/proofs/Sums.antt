-- Laws of totals and bases.
use Prim.Native.Nat.{ℕ, zero, suc, ◌+◌, ◌-◌, ◌*◌, ◌<◌, ◌≤◌}
use native.Mathlib.Omega.{arith}
use native.Mathlib.Nat.{add-zero, zero-add, le_of_suc-le-suc}
use native.Mathlib.Numerals.{add-one}
use mathlib.Core.Path.{◌≡◌, refl, sym, ap, ◌∙◌, subst}
use mathlib.Core.List.{List, [], ◌∷◌}
use lib.ListN.{length, get_or, take, set, length-set}
use lib.Seq.{ext_get_or, get_or-set_same, get_or-set_other}
use native.Mathlib.Decide.{ℕ_discrete}
use Rattle.state.specs.Bases.{total, base_of, bases_from, bases_of}

-- one segment more
pub base-next : (xs : List ℕ) (i : ℕ) → base_of xs (i + 1) ≡ base_of xs i + get_or xs i 0
unfolding base_of
base-next xs i = rw add-one (go xs i)
  where
    go : (xs : List ℕ) (i : ℕ) → total (take (suc i) xs) ≡ total (take i xs) + get_or xs i 0
    go [] zero = refl
    go [] (suc i) = refl
    go (x ∷ xs) zero = omega arith
    go (x ∷ xs) (suc i) = rw (go xs i) (omega arith)

pub base-zero : (xs : List ℕ) → base_of xs 0 ≡ 0
unfolding base_of
base-zero [] = refl
base-zero (x ∷ xs) = refl

from-length : (xs : List ℕ) (i n : ℕ) → length (bases_from xs i n) ≡ n
from-length xs i zero = refl
from-length xs i (suc n) = ap suc (from-length xs (suc i) n)

from_at : (xs : List ℕ) (i n k : ℕ) → k < n → get_or (bases_from xs i n) k 0 ≡ base_of xs (i + k)
from_at xs i zero k h = absurd (omega arith)
from_at xs i (suc n) zero h = ap (base_of xs) (sym (add-zero i))
from_at xs i (suc n) (suc k) h = from_at xs (suc i) n k (le_of_suc-le-suc h) ∙ ap (base_of xs) (omega arith)

pub bases-length : (xs : List ℕ) → length (bases_of xs) ≡ 16
unfolding bases_of
bases-length xs = from-length xs 0 16

pub bases-at : (xs : List ℕ) (k : ℕ) → k < 16 → get_or (bases_of xs) k 0 ≡ base_of xs k
unfolding bases_of
bases-at xs k h = from_at xs 0 16 k h ∙ ap (base_of xs) (zero-add k)

-- a loop that has found the first i bases
pub record Found (xs sums : List ℕ) (i : ℕ) : Type 0 where
  pub some : 1 ≤ i
  pub most : i ≤ 16
  pub room : length sums ≡ 16
  pub values : (k : ℕ) → k < i → get_or sums k 0 ≡ base_of xs k
  pub small : (k : ℕ) → k < i → base_of xs k ≤ 65536 * k

pub found-next : (xs sums : List ℕ) (i x y : ℕ) → Found xs sums i → i < 16 → x ≡ get_or sums (i - 1) 0 → y ≡ get_or xs (i - 1) 0 → y < 65536 → Found xs (set sums i (x + y)) (i + 1)
found-next xs sums i x y f h ex ey hy =
    let p : i - 1 < i = omega (arith, f.some) in
    let step : base_of xs i ≡ base_of xs (i - 1) + get_or xs (i - 1) 0 = ap (base_of xs) (before i f.some) ∙ base-next xs (i - 1) in
    let sum : x + y ≡ base_of xs i = (λ j. (ex ∙ f.values (i - 1) p) j + ey j) ∙ sym step in
    record {
      some = omega arith;
      most = omega arith;
      room = length-set sums i (x + y) ∙ f.room;
      values = λ k l. value k l (ℕ_discrete k i) sum;
      small = λ k l. bound k l (ℕ_discrete k i) (omega (arith, f.small (i - 1) p, step, ey, before i f.some));
    }
  where
    before : (i : ℕ) → 1 ≤ i → i ≡ i - 1 + 1
    before i h = omega arith

    value : (k : ℕ) → k < i + 1 → Dec (k ≡ i) → x + y ≡ base_of xs i → get_or (set sums i (x + y)) k 0 ≡ base_of xs k
    value k l (yes e) sum = rw e (get_or-set_same sums i (x + y) 0 (rw f.room h) ∙ sum)
    value k l (no ne) sum = get_or-set_other sums i k (x + y) 0 ne ∙ f.values k (omega (arith, ne))

    bound : (k : ℕ) → k < i + 1 → Dec (k ≡ i) → base_of xs i ≤ 65536 * i → base_of xs k ≤ 65536 * k
    bound k l (yes e) b = rw e b
    bound k l (no ne) b = f.small k (omega (arith, ne))

pub found_all : (xs sums : List ℕ) (i : ℕ) → 16 ≤ i → Found xs sums i → sums ≡ bases_of xs
found_all xs sums i h f =
    ext_get_or 0 sums (bases_of xs) (f.room ∙ sym (bases-length xs))
    (λ k l. let b : k < 16 = subst (λ (n : ℕ). k < n) f.room l in f.values k (omega arith) ∙ sym (bases-at xs k b))

-- a segment ends before the next one begins
pub base-apart : (xs : List ℕ) (i j : ℕ) → i < j → base_of xs i + get_or xs i 0 ≤ base_of xs j
base-apart xs i zero h = absurd (omega arith)
base-apart xs i (suc j) h = by (ℕ_discrete i j) (base-apart xs i j)
  where
    step : base_of xs (suc j) ≡ base_of xs j + get_or xs j 0
    step = ap (base_of xs) (sym (add-one j)) ∙ base-next xs j

    by : Dec (i ≡ j) → (i < j → base_of xs i + get_or xs i 0 ≤ base_of xs j) → base_of xs i + get_or xs i 0 ≤ base_of xs (suc j)
    by (yes e) rest = rw e (omega (arith, step))
    by (no ne) rest = omega (arith, step, rest (omega (arith, ne)))
