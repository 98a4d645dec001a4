-- Laws of stores one after the other, and of loops that put rows.
use Prim.Native.Nat.{ℕ, zero, suc, ◌+◌, ◌*◌, ◌-◌, ◌≤◌, ◌<◌, min, suc-le-suc}
use native.Mathlib.Omega.{arith}
use native.Mathlib.Decide.{dec_le}
use native.Mathlib.Numerals.{add-one}
use native.Mathlib.Nat.{add-zero, zero-mul, suc-mul, add-mul, min-eq_left, min-eq_right, le_of_suc-le-suc}
use mathlib.Core.Path.{◌≡◌, refl, sym, ap, ◌∙◌}
use mathlib.Core.List.{List, [], ◌∷◌, ◌++◌, append_assoc, append-nil}
use lib.ListN.{length, get_or, take, drop, replicate, set, length-append, length-replicate}
use lib.Seq.{sets, sets-eq, length-sets, take_all}
use borrow.Rule.Slice.PartMut.{put_mid}
use Rattle.std.proofs.lemmas.Slice.{put_mid-paste}
use Rattle.snapshot_format.specs.Format.{Format, byte_form, counted}
use Rattle.image_format.specs.Bytes.{joined}

module _ {A : Type 0} where
  -- stores after those of xs
  sets-append : (l : List A) (i : ℕ) (xs ys : List A) → sets l i (xs ++ ys) ≡ sets (sets l i xs) (i + length xs) ys
  sets-append l i [] ys = ap (λ (k : ℕ). sets l k ys) (sym (add-zero i))
  sets-append l i (x ∷ xs) ys =
      sets-append (set l i x) (suc i) xs ys ∙ ap (λ (k : ℕ). sets (sets (set l i x) (suc i) xs) k ys) (omega arith)

  pub follows : (l : List A) (i : ℕ) (xs ys : List A) {m r : List A} (k : ℕ) → m ≡ sets l i xs → k ≡ i + length xs → r ≡ sets m k ys → r ≡ sets l i (xs ++ ys)
  follows l i xs ys k e p g = g ∙ (λ j. sets (e j) (p j) ys) ∙ sym (sets-append l i xs ys)

  pub same-room : (l : List A) (i : ℕ) (xs : List A) {m : List A} → m ≡ sets l i xs → length m ≡ length l
  same-room l i xs e = ap length e ∙ length-sets l i xs

  -- a part written over by xs
  pub part-put : (l xs : List A) {ys : List A} (i k : ℕ) → ys ≡ xs → length xs ≡ k → i + k ≤ length l → put_mid i k l ys ≡ sets l i xs
  part-put l xs {ys} i k e n h =
      put_mid-paste i k l ys xs k e refl (sym n) ∙
      ap (λ (zs : List A). take i l ++ zs ++ drop (i + k) l) (take_all k xs (omega (arith, n))) ∙
      ap (λ (j : ℕ). take i l ++ xs ++ drop (i + j) l) (sym n) ∙
      sym (sets-eq xs l i (omega (arith, n)))

  -- a list of n elements has no more than these
  take-most : (n c : ℕ) (xs : List A) → length xs ≡ n → take (min c n) xs ≡ take c xs
  take-most n c xs e = go (dec_le c n)
    where
      go : Dec (c ≤ n) → take (min c n) xs ≡ take c xs
      go (yes h) = ap (λ (k : ℕ). take k xs) (min-eq_left h)
      go (no h) = ap (λ (k : ℕ). take k xs) (min-eq_right {n = n} {m = c} (omega (arith, h))) ∙ take_all n xs (omega arith) ∙ sym (take_all c xs (omega (arith, h)))

pub joined-bytes : (xs : List ℕ) → joined byte_form.bytes xs ≡ xs
unfolding joined
joined-bytes [] = refl
joined-bytes (x ∷ xs) = ap (λ (r : List ℕ). x ∷ r) (joined-bytes xs)

module _ {A : Type 0} (form : Format A) (d : A) where
  -- each of some values has the format's number of bytes
  abbrev pub Sized : List A → Type 0
  Sized xs = (k : ℕ) → k < length xs → length (form.bytes (get_or xs k d)) ≡ form.size

  joined-next : (xs : List A) (k : ℕ) → k < length xs → joined form.bytes (take (k + 1) xs) ≡ joined form.bytes (take k xs) ++ form.bytes (get_or xs k d)
  unfolding joined
  joined-next xs k h = ap (λ (n : ℕ). joined form.bytes (take n xs)) (add-one k) ∙ go xs k h
    where
      go : (ys : List A) (j : ℕ) → j < length ys → joined form.bytes (take (suc j) ys) ≡ joined form.bytes (take j ys) ++ form.bytes (get_or ys j d)
      go [] j b = absurd (omega arith)
      go (y ∷ ys) zero b = append-nil (form.bytes y)
      go (y ∷ ys) (suc j) b =
          ap (λ (r : List ℕ). form.bytes y ++ r) (go ys j (le_of_suc-le-suc b)) ∙ sym (append_assoc (form.bytes y) (joined form.bytes (take j ys)) (form.bytes (get_or ys j d)))

  joined-size : (xs : List A) → Sized xs → (k : ℕ) → k ≤ length xs → length (joined form.bytes (take k xs)) ≡ k * form.size
  unfolding joined
  joined-size xs s zero h = sym (zero-mul form.size)
  joined-size [] s (suc k) h = absurd (omega arith)
  joined-size (x ∷ xs) s (suc k) h =
      length-append (form.bytes x) (joined form.bytes (take k xs)) ∙
      (let a = s 0 (suc-le-suc (omega arith)) in
      let b = joined-size xs (λ n l. s (suc n) (suc-le-suc l)) k (le_of_suc-le-suc h) in
      let e : length (form.bytes x) + length (joined form.bytes (take k xs)) ≡ suc k * form.size = omega (arith, suc-mul k form.size) in e)

  pub rows-size : (xs : List A) (n : ℕ) → Sized xs → length xs ≡ n → length (joined form.bytes xs) ≡ n * form.size
  rows-size xs n s h =
      ap (λ (ys : List A). length (joined form.bytes ys)) (sym (take_all n xs (omega arith))) ∙ joined-size xs s n (omega arith)

  -- what stands after rows
  pub rows-follow : (l : List ℕ) (i : ℕ) (xs : List A) (ys : List ℕ) {m r : List ℕ} (n : ℕ) → Sized xs → length xs ≡ n → m ≡ sets l i (joined form.bytes xs)
      → r ≡ sets m (i + n * form.size) ys → r ≡ sets l i (joined form.bytes xs ++ ys)
  rows-follow l i xs ys n s h e g =
      follows l i (joined form.bytes xs) ys (i + n * form.size) e (ap (λ (k : ℕ). i + k) (sym (rows-size xs n s h))) g

-- a loop has put the first k of count rows from a place on
pub record RowsPut {A : Type 0} (form : Format A) (xs : List A) (l : List ℕ) (from count : ℕ) (m : List ℕ) (k : ℕ) : Type 0 where
  pub most : k ≤ count
  pub there : count ≤ length xs
  pub is : m ≡ sets l from (joined form.bytes (take k xs))

module _ {A : Type 0} {form : Format A} {xs : List A} {l : List ℕ} {from count : ℕ} where
  pub put-none : count ≤ length xs → RowsPut form xs l from count l 0
  unfolding joined
  put-none h = record { most = omega arith; there = h; is = refl }

  module _ {m : List ℕ} {k : ℕ} (p : RowsPut form xs l from count m k) where
    pub put-length : length m ≡ length l
    put-length = same-room l from (joined form.bytes (take k xs)) p.is

    pub put_next : {r : List ℕ} (d : A) (j : ℕ) → Sized form d xs → k < count → j ≡ from + k * form.size → r ≡ sets m j (form.bytes (get_or xs k d))
        → RowsPut form xs l from count r (k + 1)
    put_next d j s h e g =
        let z = joined-size form d xs s k (omega (arith, p.there)) in
        record {
          most = omega arith;
          there = p.there;
          is =
              follows l from (joined form.bytes (take k xs)) (form.bytes (get_or xs k d)) j p.is (e ∙ ap (λ (n : ℕ). from + n) (sym z)) g ∙
              ap (sets l from) (sym (joined-next form d xs k (omega (arith, p.there))));
        }

    pub put_all : count ≤ k → m ≡ sets l from (joined form.bytes (take count xs))
    put_all h = let e : k ≡ count = omega (arith, p.most) in p.is ∙ ap (λ (n : ℕ). sets l from (joined form.bytes (take n xs))) e

    pub put_whole : length xs ≡ count → count ≤ k → m ≡ sets l from (joined form.bytes xs)
    put_whole e h = put_all h ∙ ap (λ (ys : List A). sets l from (joined form.bytes ys)) (take_all count xs (omega arith))

-- rows after their number, and zeros
module _ {A : Type 0} (n : ℕ) (none : A) (form : Format A) (d : A) (xs : List A) (s : Sized form d xs) (full : length xs ≡ n) (c : ℕ) where
  abbrev used : List ℕ
  used = joined form.bytes (take c xs)

  used-size : length used ≡ min c n * form.size
  used-size =
      ap (λ (ys : List A). length (joined form.bytes ys)) (sym (take-most n c xs full)) ∙
      joined-size form d xs s (min c n) (omega (arith, full))

  pub counted-size : length ((counted n none form).bytes (c, xs)) ≡ suc (n * form.size)
  counted-size =
      ap suc
      (length-append used (replicate ((n - c) * form.size) 0) ∙
      (λ j. used-size j + length-replicate {A = ℕ} ((n - c) * form.size) 0 j) ∙
      sym (add-mul (min c n) (n - c) form.size) ∙
      (let e : min c n + (n - c) ≡ n = omega arith in ap (λ (k : ℕ). k * form.size) e))

  pub counted-put : (l m r : List ℕ) (i u : ℕ) → u ≡ min c n → m ≡ sets (set l i c) (i + 1) (joined form.bytes (take u xs))
      → r ≡ sets m (i + 1 + u * form.size) (replicate ((n - u) * form.size) 0) → r ≡ sets l i ((counted n none form).bytes (c, xs))
  counted-put l m r i u e g h =
      let a : m ≡ sets (set l i c) (suc i) used =
      g ∙ (λ j. sets (set l i c) (add-one i j) (joined form.bytes (take (e j) xs))) ∙ ap (λ (ys : List A). sets (set l i c) (suc i) (joined form.bytes ys)) (take-most n c xs full) in
      let b : i + 1 + u * form.size ≡ suc i + length used = (λ j. add-one i j + e j * form.size) ∙ ap (λ (k : ℕ). suc i + k) (sym used-size) in
      let z : n - u ≡ n - c = omega arith in
      follows (set l i c) (suc i) used (replicate ((n - c) * form.size) 0) (i + 1 + u * form.size) a b
      (h ∙ ap (λ (k : ℕ). sets m (i + 1 + u * form.size) (replicate (k * form.size) 0)) z)
