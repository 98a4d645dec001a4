-- Rows that are read one after the other, and how a loop comes to them.
use Prim.Native.Nat.{ℕ, suc, ◌+◌, ◌-◌, ◌<◌, ◌≤◌}
use native.Mathlib.Omega.{arith}
use mathlib.Core.Path.{◌≡◌, refl, sym, ap, ◌∙◌}
use mathlib.Core.List.{List, [], ◌∷◌, ◌++◌, append-nil}
use lib.ListN.{length, length-append}
use lib.Seq.{append_snoc}
use Rattle.words.specs.Answer.{Answer, refuse, ok, ◌>>=◌}
use Rattle.image_format.specs.Chunk.{Read}

-- the rows that were read before those of an answer
abbrev pub more : {A : Type 0} → List A → Answer (Read (List A)) → Answer (Read (List A))
more rows a = a >>= (λ r. ok (record { value = rows ++ r.value; rest = r.rest }))

-- one row before those of an answer
abbrev pub one : {A : Type 0} → A → Answer (Read (List A)) → Answer (Read (List A))
one x a = a >>= (λ r. ok (record { value = x ∷ r.value; rest = r.rest }))

more-none : {A : Type 0} (a : Answer (Read (List A))) → a ≡ more [] a
more-none (refuse n) = refl
more-none (ok r) = refl

more-one : {A : Type 0} (rows : List A) (x : A) (a : Answer (Read (List A))) → more rows (one x a) ≡ more (rows ++ (x ∷ [])) a
more-one rows x (refuse n) = refl
more-one rows x (ok r) = ap (λ (l : List _). ok (record { value = l; rest = r.rest })) (sym (append_snoc rows x r.value))

more-done : {A : Type 0} (rows : List A) (rest : List ℕ) → more rows (ok (record { value = []; rest = rest })) ≡ ok (record { value = rows; rest = rest })
more-done rows rest = ap (λ (l : List _). ok (record { value = l; rest = rest })) (append-nil rows)

-- a loop that has read i of count rows: the whole answer is these rows, before those that are left
pub record SoFar {A : Type 0} (rows : List A) (count i : ℕ) (whole : Answer (Read (List A))) (left : ℕ → Answer (Read (List A))) : Type 0 where
  pub most : i ≤ count
  pub counted : length rows ≡ i
  pub is : whole ≡ more rows (left (count - i))

pub so-far-none : {A : Type 0} (count : ℕ) (left : ℕ → Answer (Read (List A))) → SoFar [] count 0 (left count) left
so-far-none count left =
    record { most = omega arith; counted = refl; is = ap left (let e : count ≡ count - 0 = omega arith in e) ∙ more-none (left (count - 0)) }

module _ {A : Type 0} {rows : List A} {count i : ℕ} {whole : Answer (Read (List A))} {left : ℕ → Answer (Read (List A))} (f : SoFar rows count i whole left) where
  pub so-far-done : (bytes : List ℕ) → count ≤ i → left 0 ≡ ok (record { value = []; rest = bytes }) → whole ≡ ok (record { value = rows; rest = bytes })
  so-far-done bytes h e =
      f.is ∙ ap (λ (n : ℕ). more rows (left n)) (let z : count - i ≡ 0 = omega (arith, f.most) in z) ∙ ap (more rows) e ∙ more-done rows bytes

  module _ (less : i < count) where
    turn : whole ≡ more rows (left (suc (count - (i + 1))))
    turn = f.is ∙ ap (λ (n : ℕ). more rows (left n)) (let z : count - i ≡ suc (count - (i + 1)) = omega arith in z)

    pub so-far-refused : (n : ℕ) → left (suc (count - (i + 1))) ≡ refuse n → whole ≡ refuse n
    so-far-refused n e = turn ∙ ap (more rows) e

    pub so-far-next : (x : A) (next : ℕ → Answer (Read (List A))) → left (suc (count - (i + 1))) ≡ one x (next (count - (i + 1))) → SoFar (rows ++ (x ∷ [])) count (i + 1) whole next
    so-far-next x next e =
        record {
          most = omega arith;
          counted = length-append rows (x ∷ []) ∙ ap (λ (n : ℕ). n + 1) f.counted;
          is = turn ∙ ap (more rows) e ∙ more-one rows x (next (count - (i + 1)));
        }
