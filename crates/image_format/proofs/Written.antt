-- Bytes written one after the other.
use Prim.Native.Nat.{ℕ, ◌+◌, ◌*◌, ◌<◌, ◌≤◌}
use native.Mathlib.Omega.{arith}
use native.Mathlib.Nat.{add-zero, zero-add}
use native.Mathlib.Numerals.{add-one}
use mathlib.Core.Path.{◌≡◌, refl, sym, ap, ◌∙◌}
use mathlib.Core.List.{List, [], ◌∷◌, ◌++◌, append_assoc, append-nil}
use borrow.Rule.Slice.PartMut.{put_mid}
use lib.ListN.{length, get_or, take, drop, set, length-append, length-drop, take-append-drop}
use lib.Seq.{sets-eq, take_at, drop-append-add, drop-drop, length-take-le, paste, take-suc}
use Rattle.image_format.specs.Bytes.{pair_bytes, word_bytes, words_bytes, joined}
use Rattle.image_format.specs.Image.{rows_from}
use Rattle.image_format.specs.Output.{written}
use Rattle.image_format.proofs.Joined.{joined_snoc, rows_next, rows-most}

pub written_none : (l : List ℕ) (at : ℕ) → l ≡ written l at []
unfolding written
written_none l at =
    sym (ap (λ (xs : List ℕ). xs ++ drop (at + 0) l) (append-nil (take at l)) ∙ ap (λ (k : ℕ). take at l ++ drop k l) (add-zero at) ∙ take-append-drop at l)

-- one byte
set_is : (l : List ℕ) (at x : ℕ) → at < length l → set l at x ≡ written l at (x ∷ [])
unfolding written
set_is l at x h = sets-eq (x ∷ []) l at (omega arith)

-- from the start
pub written_start : (l bytes : List ℕ) → written l 0 bytes ≡ bytes ++ drop (length bytes) l
unfolding written
written_start l bytes = ap (λ (k : ℕ). bytes ++ drop k l) (zero-add (length bytes))

module _ (l : List ℕ) (at : ℕ) where
  module _ (xs : List ℕ) (fits : at + length xs ≤ length l) where
    front : length (take at l ++ xs) ≡ at + length xs
    front = length-append (take at l) xs ∙ ap (λ (k : ℕ). k + length xs) (length-take-le at l (omega arith))

    pub written-length : length (written l at xs) ≡ length l
    unfolding written
    written-length =
        length-append (take at l ++ xs) (drop (at + length xs) l) ∙
        (let e : length (take at l ++ xs) + length (drop (at + length xs) l) ≡ length l = omega (arith, front, length-drop (at + length xs) l) in e)

  -- bytes after those that are written
  pub written-more : (xs ys : List ℕ) (k : ℕ) → at + length xs ≤ length l → k ≡ at + length xs → written (written l at xs) k ys ≡ written l at (xs ++ ys)
  unfolding written
  written-more xs ys k h e =
      let m = take at l ++ xs in
      let d = drop (at + length xs) l in
      let f : length m ≡ k = front xs h ∙ sym e in
      let a : take k (m ++ d) ≡ m = take_at m d k f in
      let b : drop (k + length ys) (m ++ d) ≡ drop (at + length (xs ++ ys)) l =
      ap (λ (n : ℕ). drop (n + length ys) (m ++ d)) (sym f) ∙ drop-append-add m d (length ys) ∙ drop-drop (length ys) (at + length xs) l ∙
      ap (λ (n : ℕ). drop n l) (let z : at + length xs + length ys ≡ at + length (xs ++ ys) = omega (arith, length-append xs ys) in z) in
      (λ j. a j ++ ys ++ b j) ∙ ap (λ (w : List ℕ). w ++ drop (at + length (xs ++ ys)) l) (append_assoc (take at l) xs ys)

  pub written-set : (xs : List ℕ) (y k : ℕ) → at + length xs < length l → k ≡ at + length xs → set (written l at xs) k y ≡ written l at (xs ++ (y ∷ []))
  written-set xs y k h e =
      let f : length (written l at xs) ≡ length l = written-length xs (omega arith) in
      set_is (written l at xs) k y (omega arith) ∙ written-more xs (y ∷ []) k (omega arith) e

pub words_size : (ws : List ℕ) → length (words_bytes ws) ≡ 4 * length ws
unfolding joined word_bytes pair_bytes
words_size [] = refl
words_size (w ∷ ws) = let e = words_size ws in omega arith

pub word_size : (w : ℕ) → length (word_bytes w) ≡ 4
unfolding word_bytes pair_bytes
word_size w = refl

-- a copy of n bytes
pub written-paste : (l : List ℕ) (at : ℕ) (s : List ℕ) (n : ℕ) → n ≤ length s → paste l at s n ≡ written l at (take n s)
unfolding written
written-paste l at s n h = ap (λ (k : ℕ). take at l ++ take n s ++ drop (at + k) l) (sym (length-take-le n s h))

-- bytes that are copied over a part of as many
pub written-part : (l xs ys : List ℕ) (at k : ℕ) → ys ≡ xs → k ≡ length xs → put_mid at k l ys ≡ written l at xs
unfolding written
written-part l xs ys at k h e =
    rw (h, e) ((λ j. take at l ++ (xs ++ drop-drop (length xs) at l j)) ∙ sym (append_assoc (take at l) xs (drop (at + length xs) l)))

-- one word more
pub words_more : (l : List ℕ) (at : ℕ) (s : List ℕ) (j : ℕ) → j < length s → at + 4 * j ≤ length l
    → written (written l at (words_bytes (take j s))) (at + 4 * j) (word_bytes (get_or s j 0)) ≡ written l at (words_bytes (take (j + 1) s))
words_more l at s j h k =
    let e : length (words_bytes (take j s)) ≡ 4 * j = words_size (take j s) ∙ ap (λ (n : ℕ). 4 * n) (length-take-le j s (omega arith)) in
    written-more l at (words_bytes (take j s)) (word_bytes (get_or s j 0)) (at + 4 * j) (omega arith) (omega arith) ∙
    ap (written l at) (sym (joined_snoc word_bytes (take j s) (get_or s j 0)) ∙ ap words_bytes (sym (take-suc s j 0 h) ∙ ap (λ (n : ℕ). take n s) (sym (add-one j))))

-- a byte, and bytes, put after those that are written
module _ (l m xs : List ℕ) (at : ℕ) (e : m ≡ written l at xs) where
  pub then-byte : (y k : ℕ) → at + length xs < length l → k ≡ at + length xs → set m k y ≡ written l at (xs ++ (y ∷ []))
  then-byte y k h f = ap (λ (n : List ℕ). set n k y) e ∙ written-set l at xs y k h f

  pub then-bytes : {n : List ℕ} (ys : List ℕ) (k : ℕ) → n ≡ written m k ys → at + length xs ≤ length l → k ≡ at + length xs → n ≡ written l at (xs ++ ys)
  then-bytes ys k g h f = g ∙ ap (λ (n : List ℕ). written n k ys) e ∙ written-more l at xs ys k h f

  pub then-length : at + length xs ≤ length l → length m ≡ length l
  then-length h = ap length e ∙ written-length l at xs h

-- a loop that has put the first i of count rows from a place on
pub record RowsPut {A : Type 0} (f : A → List ℕ) (row : ℕ → A) (l : List ℕ) (start count : ℕ) (m : List ℕ) (at i : ℕ) : Type 0 where
  pub most : i ≤ count
  pub fits : start + length (joined f (rows_from row 0 count)) ≤ length l
  pub at-is : at ≡ start + length (joined f (rows_from row 0 i))
  pub is : m ≡ written l start (joined f (rows_from row 0 i))

pub put-none : {A : Type 0} {f : A → List ℕ} {row : ℕ → A} {l : List ℕ} {start count : ℕ} → start + length (joined f (rows_from row 0 count)) ≤ length l → RowsPut f row l start count l start 0
unfolding joined rows_from
put-none {A} {f} {row} {l} {start} h = record { most = omega arith; fits = h; at-is = omega arith; is = written_none l start }

module _ {A : Type 0} {f : A → List ℕ} {row : ℕ → A} {l : List ℕ} {start count : ℕ} {m : List ℕ} {at i : ℕ} (p : RowsPut f row l start count m at i) where
  abbrev so_far : List ℕ
  so_far = joined f (rows_from row 0 i)

  pub put-length : length m ≡ length l
  put-length = then-length l m so_far start p.is (omega (arith, p.fits, rows-most f row i count p.most))

  pub put-done : count ≤ i → (at ≡ start + length (joined f (rows_from row 0 count))) × (m ≡ written l start (joined f (rows_from row 0 count)))
  put-done h =
      let e : i ≡ count = omega (arith, p.most) in
      (p.at-is ∙ ap (λ (n : ℕ). start + length (joined f (rows_from row 0 n))) e, p.is ∙ ap (λ (n : ℕ). written l start (joined f (rows_from row 0 n))) e)

  module _ (less : i < count) where
    one : joined f (rows_from row 0 (i + 1)) ≡ so_far ++ f (row i)
    one = ap (joined f) (rows_next row i) ∙ joined_snoc f (rows_from row 0 i) (row i)

    size : length (joined f (rows_from row 0 (i + 1))) ≡ length so_far + length (f (row i))
    size = ap length one ∙ length-append so_far (f (row i))

    pub put-room : at + length (f (row i)) ≤ length l
    put-room = omega (arith, p.at-is, p.fits, size, rows-most f row (i + 1) count (omega arith))

    pub put_next : {n : List ℕ} {k : ℕ} → n ≡ written m at (f (row i)) → k ≡ at + length (f (row i)) → RowsPut f row l start count n k (i + 1)
    put_next g e =
        record {
          most = omega arith;
          fits = p.fits;
          at-is = omega (arith, p.at-is, size, e);
          is = then-bytes l m so_far start p.is (f (row i)) at g (omega (arith, p.at-is, put-room)) p.at-is ∙ ap (written l start) (sym one);
        }
