-- A test of a list, as a loop over an array comes to it.
use Prim.Native.Nat.{ℕ, ◌+◌, ◌<◌, ◌≤◌}
use native.Mathlib.Numerals.{add-one}
use mathlib.Core.Path.{◌≡◌, ◌∙◌, ap, sym}
use mathlib.Core.List.{List, [], ◌∷◌}
use mathlib.Core.Bool.{Bool}
use lib.ListN.{length, get_or, drop, drop_of_length-le}
use lib.Seq.{drop-cons}

-- the answer is the test of the elements from place i on
pub record Left {A : Type 0} (test : List A → Bool) (answer : Bool) (xs : List A) (i : ℕ) : Type 0 where
  pub rest : answer ≡ test (drop i xs)

-- the element at place i is the next, or there is none
module _ {A : Type 0} {test : List A → Bool} {answer : Bool} {xs : List A} {i : ℕ} (none : A) (l : Left test answer xs i) where
  pub next : i < length xs → answer ≡ test (get_or xs i none ∷ drop (i + 1) xs)
  next h = l.rest ∙ ap test (rw add-one (drop-cons xs i none h))

  pub ended : length xs ≤ i → answer ≡ test []
  ended h = l.rest ∙ ap test (drop_of_length-le xs {i = i} h)

-- the element at place i, as an iterator gives it
pub next_item : {A : Type 0} {test : List A → Bool} {answer : Bool} {xs : List A} {i : ℕ} → Left test answer xs i → (x : A) → (i < length xs) × (x ≡ get_or xs i x) → answer ≡ test (x ∷ drop (i + 1) xs)
next_item {test = test} {xs = xs} {i = i} l x h = next x l h.0 ∙ ap (λ y. test (y ∷ drop (i + 1) xs)) (sym h.1)
