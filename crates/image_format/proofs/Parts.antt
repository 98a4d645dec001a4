-- Numbers and words in a part of the bytes.
use Prim.Native.Nat.{ℕ, zero, suc, ◌+◌, ◌*◌, ◌<◌, ◌≤◌}
use native.Mathlib.Omega.{arith}
use mathlib.Core.Path.{◌≡◌, refl, sym, ap, ◌∙◌}
use mathlib.Core.List.{List, ◌∷◌}
use lib.ListN.{length, get_or, take, drop}
use lib.Seq.{get_or-take, get_or-drop, drop-drop}
use Rattle.image_format.specs.Bytes.{pair_of, word_of, words_of}

-- bytes that agree at the first n places
abbrev pub Agree : ℕ → List ℕ → List ℕ → Type 0
Agree n xs ys = (i : ℕ) → i < n → get_or xs i 0 ≡ get_or ys i 0

pub pair_same : (xs ys : List ℕ) → Agree 2 xs ys → pair_of xs ≡ pair_of ys
unfolding pair_of
pair_same xs ys e = λ j. e 0 (omega arith) j + e 1 (omega arith) j * 256

agree-drop : (n k : ℕ) (xs ys : List ℕ) → Agree (k + n) xs ys → Agree n (drop k xs) (drop k ys)
agree-drop n k xs ys e i h = get_or-drop k xs i 0 ∙ e (k + i) (omega arith) ∙ sym (get_or-drop k ys i 0)

agree_less : (n m : ℕ) (xs ys : List ℕ) → n ≤ m → Agree m xs ys → Agree n xs ys
agree_less n m xs ys l e i h = e i (omega arith)

pub word_same : (xs ys : List ℕ) → Agree 4 xs ys → word_of xs ≡ word_of ys
unfolding word_of
word_same xs ys e =
    λ j. pair_same xs ys (agree_less 2 4 xs ys (omega arith) e) j + pair_same (drop 2 xs) (drop 2 ys) (agree-drop 2 2 xs ys e) j * 65536

pub words_same : (n : ℕ) (xs ys : List ℕ) → Agree (4 * n) xs ys → words_of n xs ≡ words_of n ys
unfolding words_of
words_same zero xs ys e = refl
words_same (suc n) xs ys e =
    λ j. word_same xs ys (agree_less 4 (4 * suc n) xs ys (omega arith) e) j ∷ words_same n (drop 4 xs) (drop 4 ys) (agree-drop (4 * n) 4 xs ys (agree_less (4 + 4 * n) (4 * suc n) xs ys (omega arith) e)) j

pub words-length : (n : ℕ) (xs : List ℕ) → length (words_of n xs) ≡ n
unfolding words_of
words-length zero xs = refl
words-length (suc n) xs = ap suc (words-length n (drop 4 xs))

pub words-at : (n : ℕ) (xs : List ℕ) (j : ℕ) → j < n → get_or (words_of n xs) j 0 ≡ word_of (drop (4 * j) xs)
unfolding words_of
words-at zero xs j h = absurd (omega arith)
words-at (suc n) xs zero h = refl
words-at (suc n) xs (suc j) h =
    words-at n (drop 4 xs) j (omega arith) ∙ ap word_of (drop-drop (4 * j) 4 xs ∙ ap (λ (k : ℕ). drop k xs) (let e : 4 + 4 * j ≡ 4 * suc j = omega arith in e))

-- the first bytes of a body
pub body_at : (xs : List ℕ) (n i : ℕ) → i < n → get_or (take n (drop 4 xs)) i 0 ≡ get_or xs (4 + i) 0
body_at xs n i h = get_or-take n (drop 4 xs) i 0 h ∙ get_or-drop 4 xs i 0

pub body-from : (xs : List ℕ) (n k m : ℕ) → k + m ≤ n → Agree m (drop k (take n (drop 4 xs))) (drop (4 + k) xs)
body-from xs n k m l i h =
    get_or-drop k (take n (drop 4 xs)) i 0 ∙ body_at xs n (k + i) (omega arith) ∙ ap (λ (j : ℕ). get_or xs j 0) (let e : 4 + (k + i) ≡ 4 + k + i = omega arith in e) ∙ sym (get_or-drop (4 + k) xs i 0)

pub body-start : (xs : List ℕ) (n m : ℕ) → m ≤ n → Agree m (take n (drop 4 xs)) (drop 4 xs)
body-start xs n m l i h = get_or-take n (drop 4 xs) i 0 (omega arith)
