-- Rows that are filled from the front, with zeros after them.
use Prim.Native.Nat.{ℕ, suc, ◌+◌, ◌-◌, ◌<◌, ◌≤◌}
use native.Mathlib.Omega.{arith}
use mathlib.Core.Path.{◌≡◌, refl, sym, ap, ◌∙◌}
use mathlib.Core.List.{List, [], ◌∷◌, ◌++◌, map}
use lib.ListN.{length, set, replicate, length-append, length-map, length-replicate}
use lib.Seq.{set_at, append_snoc}
use Rattle.image_format.specs.Image.{padded}

pub padded-none : (n : ℕ) → replicate n 0 ≡ padded n []
unfolding padded
padded-none n = ap (λ (k : ℕ). replicate k 0) (let e : n ≡ n - 0 = omega arith in e)

-- one row more
padded-set : (n : ℕ) (xs : List ℕ) (i x : ℕ) → length xs ≡ i → i < n → set (padded n xs) i x ≡ padded n (xs ++ (x ∷ []))
unfolding padded
padded-set n xs i x e h =
    let k : n - length xs ≡ suc (n - suc (length xs)) = omega arith in
    let l : length (xs ++ (x ∷ [])) ≡ suc (length xs) = length-append xs (x ∷ []) ∙ (let z : length xs + 1 ≡ suc (length xs) = omega arith in z) in
    ap (λ (m : ℕ). set (xs ++ replicate m 0) i x) k ∙ set_at xs 0 (replicate (n - suc (length xs)) 0) x i e ∙
    sym (append_snoc xs x (replicate (n - suc (length xs)) 0)) ∙ ap (λ (m : ℕ). (xs ++ (x ∷ [])) ++ replicate (n - m) 0) (sym l)

pub padded-length : (n : ℕ) (xs : List ℕ) → length xs ≤ n → length (padded n xs) ≡ n
unfolding padded
padded-length n xs h = length-append xs (replicate (n - length xs) 0) ∙ ap (λ (k : ℕ). length xs + k) (length-replicate (n - length xs) 0) ∙ (let e : length xs + (n - length xs) ≡ n = omega arith in e)

map_snoc : {A B : Type 0} (f : A → B) (xs : List A) (x : A) → map f (xs ++ (x ∷ [])) ≡ map f xs ++ (f x ∷ [])
map_snoc f [] x = refl
map_snoc f (y ∷ ys) x = ap (λ (zs : List _). f y ∷ zs) (map_snoc f ys x)

-- a column of a table, one row more
pub column-next : {A : Type 0} (n : ℕ) (g : A → ℕ) {xs : List ℕ} (rows : List A) (x : A) {i y : ℕ} → xs ≡ padded n (map g rows) → length rows ≡ i → i < n → y ≡ g x
    → set xs i y ≡ padded n (map g (rows ++ (x ∷ [])))
column-next n g rows x {i} e c h f =
    (λ j. set (e j) i (f j)) ∙ padded-set n (map g rows) i (g x) (length-map rows g ∙ c) h ∙ ap (padded n) (sym (map_snoc g rows x))
