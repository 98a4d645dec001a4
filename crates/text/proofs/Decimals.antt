-- Numbers in decimal.
use Rattle.std.specs.Prelude.{if◌then◌else◌}
use Prim.Native.Nat.{ℕ, zero, suc, ◌+◌, ◌*◌, ◌/◌, ◌%◌, ◌≤◌, ◌<◌}
use native.Mathlib.Omega.{arith}
use mathlib.Core.Bool.{Bool, true, false}
use mathlib.Core.List.{List, [], ◌∷◌, ◌++◌}
use mathlib.Core.Path.{◌≡◌, refl, ap, ◌∙◌}
use borrow.Author.Tests.{lt-ltb, le-ltb, ltb-true, ltb-false}
use lib.Dec.{ltb}
use lib.ListN.{length, length-append}
use Rattle.text.specs.Text.{digits, decimal, labelled, line}

abbrev last : ℕ → List ℕ
last n = (48 + n % 10) ∷ []

-- more digits than a number has change nothing
same : (j k n : ℕ) → n < j → n < k → digits j n ≡ digits k n
unfolding digits
same zero k n g h = absurd (omega arith)
same (suc j) zero n g h = absurd (omega arith)
same (suc j) (suc k) n g h = by (ltb n 10) refl (λ m. same j k (n / 10) (omega arith) (omega arith))
  where
    by : (t : Bool) → ltb n 10 ≡ t → (10 ≤ n → digits j (n / 10) ≡ digits k (n / 10))
        → (if t then (48 + n) ∷ [] else digits j (n / 10) ++ last n) ≡ (if t then (48 + n) ∷ [] else digits k (n / 10) ++ last n)
    by true e r = refl
    by false e r = ap (λ (xs : List ℕ). xs ++ last n) (r (ltb-false n 10 e))

-- one digit, and one more
pub decimal-one : (n : ℕ) → n < 10 → decimal n ≡ (48 + n) ∷ []
unfolding digits
decimal-one n h = simp (lt-ltb n 10 h)

pub decimal-more : (n : ℕ) → 10 ≤ n → decimal n ≡ decimal (n / 10) ++ last n
unfolding digits
decimal-more n h =
    (let e : decimal n ≡ digits n (n / 10) ++ last n = simp (le-ltb n 10 h) in e) ∙
    ap (λ (xs : List ℕ). xs ++ last n) (same n (suc (n / 10)) (n / 10) (omega arith) (omega arith))

pub more-size : (n : ℕ) → 10 ≤ n → length (decimal n) ≡ length (decimal (n / 10)) + 1
more-size n h = ap length (decimal-more n h) ∙ length-append (decimal (n / 10)) (last n)

-- the least number of more than k + 1 digits
abbrev pub tens : ℕ → ℕ
tens zero = 10
tens (suc k) = 10 * tens k

pub size-most : (k n : ℕ) → n < tens k → length (decimal n) ≤ k + 1
size-most zero n h = omega (arith, ap length (decimal-one n h))
size-most (suc k) n h = by (ltb n 10) refl (λ m. size-most k (n / 10) m)
  where
    by : (t : Bool) → ltb n 10 ≡ t → (n / 10 < tens k → length (decimal (n / 10)) ≤ k + 1) → length (decimal n) ≤ suc k + 1
    by true e r = omega (arith, ap length (decimal-one n (ltb-true n 10 e)))
    by false e r = omega (arith, more-size n (ltb-false n 10 e), r (omega arith))

-- a word has at most ten digits
pub decimal-most : (n : ℕ) → n < 4294967296 → length (decimal n) ≤ 10
decimal-most n h = size-most 9 n (omega arith)

-- with a label, and as a line
pub labelled-most : (label : List ℕ) (n : ℕ) → n < 4294967296 → length (labelled label n) ≤ length label + 10
labelled-most label n h = omega (arith, length-append label (decimal n), decimal-most n h)

pub line-size : (label : List ℕ) (n : ℕ) → length (line (labelled label n)) ≡ length label + length (decimal n) + 1
line-size label n = omega (arith, length-append (labelled label n) (10 ∷ []), length-append label (decimal n))

pub line-most : (label : List ℕ) (n : ℕ) → n < 4294967296 → length (line (labelled label n)) ≤ length label + 11
line-most label n h = omega (arith, line-size label n, decimal-most n h)
