-- What the elements of a list give, one after the other.
use Prim.Native.Nat.{ℕ, zero, suc, ◌+◌, ◌-◌, ◌≤◌}
use native.Mathlib.Omega.{arith}
use native.Mathlib.Nat.{add-zero, zero-add}
use mathlib.Core.Path.{◌≡◌, refl, sym, ap, ◌∙◌}
use mathlib.Core.List.{List, [], ◌∷◌, ◌++◌, append_assoc, append-nil}
use lib.ListN.{length, length-append}
use Rattle.image_format.specs.Bytes.{joined}
use Rattle.image_format.specs.Image.{rows_from}

module _ {A : Type 0} (f : A → List ℕ) where
  pub joined-append : (xs ys : List A) → joined f (xs ++ ys) ≡ joined f xs ++ joined f ys
  unfolding joined
  joined-append [] ys = refl
  joined-append (x ∷ xs) ys = ap (λ (l : List ℕ). f x ++ l) (joined-append xs ys) ∙ sym (append_assoc (f x) (joined f xs) (joined f ys))

  joined-one : (x : A) → joined f (x ∷ []) ≡ f x
  unfolding joined
  joined-one x = append-nil (f x)

  pub joined_snoc : (xs : List A) (x : A) → joined f (xs ++ (x ∷ [])) ≡ joined f xs ++ f x
  joined_snoc xs x = joined-append xs (x ∷ []) ∙ ap (λ (l : List ℕ). joined f xs ++ l) (joined-one x)

-- rows in two parts, and one row more
pub rows_append : {A : Type 0} (row : ℕ → A) (i m n : ℕ) → rows_from row i (m + n) ≡ rows_from row i m ++ rows_from row (i + m) n
unfolding rows_from
rows_append row i zero n = λ j. rows_from row (sym (add-zero i) j) (zero-add n j)
rows_append row i (suc m) n =
    ap (λ (k : ℕ). rows_from row i k) (let e : suc m + n ≡ suc (m + n) = omega arith in e) ∙ ap (λ (l : List _). row i ∷ l) (rows_append row (i + 1) m n ∙
    ap (λ (k : ℕ). rows_from row (i + 1) m ++ rows_from row k n) (let e : i + 1 + m ≡ i + suc m = omega arith in e))

pub rows_next : {A : Type 0} (row : ℕ → A) (i : ℕ) → rows_from row 0 (i + 1) ≡ rows_from row 0 i ++ (row i ∷ [])
unfolding rows_from
rows_next row i = rows_append row 0 i 1 ∙ ap (λ (k : ℕ). rows_from row 0 i ++ (row k ∷ [])) (zero-add i)

pub rows-length : {A : Type 0} (row : ℕ → A) (i n : ℕ) → length (rows_from row i n) ≡ n
unfolding rows_from
rows-length row i zero = refl
rows-length row i (suc n) = ap suc (rows-length row (i + 1) n)

-- the first rows take no more than all
pub rows-most : {A : Type 0} (f : A → List ℕ) (row : ℕ → A) (i n : ℕ) → i ≤ n → length (joined f (rows_from row 0 i)) ≤ length (joined f (rows_from row 0 n))
rows-most f row i n h =
    let e : rows_from row 0 n ≡ rows_from row 0 i ++ rows_from row (0 + i) (n - i) = ap (λ (k : ℕ). rows_from row 0 k) (let z : n ≡ i + (n - i) = omega arith in z) ∙ rows_append row 0 i (n - i) in
    omega (arith, ap (λ (l : List _). length (joined f l)) e, ap length (joined-append f (rows_from row 0 i) (rows_from row (0 + i) (n - i))), length-append (joined f (rows_from row 0 i)) (joined f (rows_from row (0 + i) (n - i))))
