-- Laws of formats, each way to make one proved once: a value is read back from its bytes, and proper bytes are those of the value that they hold.
use Rattle.std.specs.Prelude.{if◌then◌else◌}
use Prim.Native.Nat.{ℕ, zero, suc, ◌+◌, ◌*◌, ◌-◌, ◌/◌, ◌%◌, ◌<◌, ◌≤◌, min}
use native.Mathlib.Omega.{arith}
use native.Mathlib.Nat.{add-zero, zero-mul, suc-mul, add_comm, add-mul, mul-le-mul_right, le_of_suc-le-suc}
use native.Mathlib.Numerals.{add-one}
use mathlib.Core.Bool.{Bool, true, false}
use mathlib.Core.List.{List, [], ◌∷◌, ◌++◌}
use mathlib.Core.Path.{◌≡◌, refl, sym, ap, ◌∙◌, subst}
use borrow.Author.Tests.{eq-eqb, ne_eqb, eqb-true, leb-true, le-leb, lt-ltb, ltb-true, ltb-false}
use lib.Dec.{eqb, leb, ltb}
use lib.ListN.{length, get_or, take, drop, replicate, length-append, length-take, length-replicate, get_or-append}
use lib.Seq.{take-add, drop-drop, drop-cons, ext_get_or, length-take-le, get_or-append-add, get_or-take}
use Rattle.words.specs.Bit.{bit}
use Rattle.layout_soundness.specs.SoundLayout.{all_from}
use Rattle.layout_soundness.proofs.Tests.{both, join}
use Rattle.layout_soundness.proofs.All.{each, all}
use Rattle.snapshot_format.specs.Tabulate.{tabulate}
use Rattle.snapshot_format.specs.Format.{Format, Shape, quad_shape, byte_form, pair_form, quad_form, flag_form, ◌then◌, rows_of, zeros, counted, seen_as}
use Rattle.image_format.specs.Bytes.{joined}
use Rattle.snapshot_format.proofs.Fill.{tabulate-length, tabulate-at}

-- the bytes of b from place i on begin with xs
abbrev pub Holds : List ℕ → ℕ → List ℕ → Type 0
Holds b i xs = (k : ℕ) → k < length xs → get_or b (i + k) 0 ≡ get_or xs k 0

-- the n bytes of b from place i on
abbrev pub part : List ℕ → ℕ → ℕ → List ℕ
part b i n = take n (drop i b)

-- Long: the value's arrays have their lengths; Rest: what else its bytes do not show
pub record Lawful {A : Type 0} (f : Format A) (Long Rest : A → Type 0) : Type 0 where
  pub long : (a : A) → Long a → length (f.bytes a) ≡ f.size
  pub back : (a : A) → Long a → Rest a → (b : List ℕ) (i : ℕ) → Holds b i (f.bytes a) → (f.value b i ≡ a) × (f.proper b i ≡ true)
  pub forth : (b : List ℕ) (i : ℕ) → ((k : ℕ) → get_or b k 0 < 256) → i + f.size ≤ length b → f.proper b i ≡ true → f.bytes (f.value b i) ≡ part b i f.size

abbrev pub Always : {A : Type 0} → A → Type 0
Always a = Unit {0}

module _ (b : List ℕ) (i : ℕ) where
  first : (x : ℕ) (xs : List ℕ) → Holds b i (x ∷ xs) → get_or b i 0 ≡ x
  first x xs h = ap (λ (k : ℕ). get_or b k 0) (sym (add-zero i)) ∙ h 0 (omega arith)

  left : (xs ys : List ℕ) → Holds b i (xs ++ ys) → Holds b i xs
  left xs ys h k l = h k (simp length-append (omega arith)) ∙ get_or-append xs ys 0 k l

  right : (xs ys : List ℕ) (n : ℕ) → length xs ≡ n → Holds b i (xs ++ ys) → Holds b (i + n) ys
  right xs ys n e h k l =
      ap (λ (j : ℕ). get_or b j 0) (omega arith) ∙ h (length xs + k) (simp length-append (omega arith)) ∙ get_or-append-add xs ys k 0

  part-one : i < length b → part b i 1 ≡ get_or b i 0 ∷ []
  part-one h = ap (take 1) (drop-cons b i 0 h)

  part-add : (m n : ℕ) → part b i (m + n) ≡ part b i m ++ part b (i + m) n
  part-add m n = take-add m n (drop i b) ∙ ap (λ (l : List ℕ). take m (drop i b) ++ take n l) (drop-drop m i b)

part-two : (b : List ℕ) (i : ℕ) → i + 2 ≤ length b → part b i 2 ≡ get_or b i 0 ∷ get_or b (i + 1) 0 ∷ []
part-two b i h = part-add b i 1 1 ∙ (λ j. part-one b i (omega arith) j ++ part-one b (i + 1) (omega arith) j)

pub byte_laws : Lawful byte_form Always Always
byte_laws =
    record {
      long = λ a l. refl;
      back = λ a l r b i h. (first b i a [] h, refl);
      forth = λ b i s h p. sym (part-one b i (omega arith));
    }

pub pair-laws : Lawful pair_form Always Always
pair-laws =
    record {
      long = λ a l. refl;
      back = λ a l r b i h. (whole a _ _ (first b i (a % 256) (a / 256 ∷ []) h) (h 1 (omega arith)), refl);
      forth = λ b i s h p.
          (λ j. low (get_or b i 0) (get_or b (i + 1) 0) (s i) j ∷ high (get_or b i 0) (get_or b (i + 1) 0) (s i) j ∷ []) ∙ sym (part-two b i h);
    }
  where
    whole : (n x y : ℕ) → x ≡ n % 256 → y ≡ n / 256 → x + y * 256 ≡ n
    whole n x y p q = omega arith

    low : (x y : ℕ) → x < 256 → (x + y * 256) % 256 ≡ x
    low x y h = omega arith

    high : (x y : ℕ) → x < 256 → (x + y * 256) / 256 ≡ y
    high x y h = omega arith

pub flag-laws : Lawful flag_form Always Always
flag-laws =
    record {
      long = λ a l. refl;
      back = λ a l r b i h. let e = first b i (bit a) [] h in (back a _ e, fine a _ e);
      forth = λ b i s h p. ap (λ (n : ℕ). n ∷ []) (forth _ p) ∙ sym (part-one b i (omega arith));
    }
  where
    back : (t : Bool) (x : ℕ) → x ≡ bit t → eqb x 1 ≡ t
    back true x e = eq-eqb x 1 e
    back false x e = ne_eqb x 1 (λ z. omega arith)

    fine : (t : Bool) (x : ℕ) → x ≡ bit t → leb x 1 ≡ true
    fine true x e = le-leb x 1 (omega arith)
    fine false x e = le-leb x 1 (omega arith)

    forth : (x : ℕ) → leb x 1 ≡ true → bit (eqb x 1) ≡ x
    forth zero e = refl
    forth (suc zero) e = refl
    forth (suc (suc x)) e = absurd (omega (arith, leb-true (suc (suc x)) 1 e))

module _ {A B : Type 0} where
  pub then-laws : {f : Format A} {g : Format B} {L R : A → Type 0} {M S : B → Type 0} →
      Lawful f L R → Lawful g M S → Lawful (f then g) (λ p. L p.0 × M p.1) (λ p. R p.0 × S p.1)
  then-laws {f} {g} F G =
      record {
        long = λ p l. length-append (f.bytes p.0) (g.bytes p.1) ∙ (λ j. F.long p.0 l.0 j + G.long p.1 l.1 j);
        back = λ p l r b i h.
            let x = F.back p.0 l.0 r.0 b i (left b i (f.bytes p.0) (g.bytes p.1) h) in
            let y = G.back p.1 l.1 r.1 b (i + f.size) (right b i (f.bytes p.0) (g.bytes p.1) f.size (F.long p.0 l.0) h) in
            ((λ j. (x.0 j, y.0 j)), join x.1 y.1);
        forth = λ b i s h p.
            let t = both (f.proper b i) (g.proper b (i + f.size)) p in
            (λ j. F.forth b i s (omega arith) t.0 j ++ G.forth b (i + f.size) s (omega arith) t.1 j) ∙ sym (part-add b i f.size g.size);
      }

  pub seen-laws : {f : Format A} {L R : A → Type 0} (M S : B → Type 0) (v : Shape A B) →
      Lawful f L R → ((y : B) → M y → L (v.parts y)) → ((y : B) → M y → S y → R (v.parts y)) → ((y : B) → v.whole (v.parts y) ≡ y) →
      ((b : List ℕ) (i : ℕ) → ((k : ℕ) → get_or b k 0 < 256) → v.parts (v.whole (f.value b i)) ≡ f.value b i) → Lawful (seen_as v f) M S
  seen-laws {f} M S v F l r there here =
      record {
        long = λ y m. F.long (v.parts y) (l y m);
        back = λ y m s b i h. let x = F.back (v.parts y) (l y m) (r y m s) b i h in (ap v.whole x.0 ∙ there y, x.1);
        forth = λ b i s h p. ap f.bytes (here b i s) ∙ F.forth b i s h p;
      }

pub quad-laws : Lawful quad_form Always Always
quad-laws =
    seen-laws Always Always quad_shape (then-laws pair-laws pair-laws) (λ n l. (tt, tt)) (λ n l r. (tt, tt))
    (λ n. omega arith) (λ b i s. halves (get_or b i 0) (get_or b (i + 1) 0) (pair_form.value b (i + 2)) (s i) (s (i + 1)))
  where
    halves : (x y z : ℕ) → x < 256 → y < 256 → ◌≡◌ {A = ℕ × ℕ} ((x + y * 256 + z * 65536) % 65536, (x + y * 256 + z * 65536) / 65536) (x + y * 256, z)
    halves x y z p q =
        let low : (x + y * 256 + z * 65536) % 65536 ≡ x + y * 256 = omega arith in
        let high : (x + y * 256 + z * 65536) / 65536 ≡ z = omega arith in
        λ j. (low j, high j)

-- the place of row 0 and of each next row
row-0 : (i s : ℕ) → i + 0 * s ≡ i
row-0 i s = omega arith

row_next : (i k s : ℕ) → i + suc k * s ≡ i + s + k * s
row_next i k s = omega (arith, suc-mul k s)

row_fits : (i n k s room : ℕ) → k < n → i + n * s ≤ room → i + k * s + s ≤ room
row_fits i n k s room h l = omega (arith, mul-le-mul_right s h, suc-mul k s)

-- rows: each is as long as the next
module _ {A : Type 0} (f : Format A) (d : A) where
  abbrev Sized : List A → Type 0
  Sized xs = (k : ℕ) → k < length xs → length (f.bytes (get_or xs k d)) ≡ f.size

  joined-long : (xs : List A) → Sized xs → length (joined f.bytes xs) ≡ length xs * f.size
  unfolding joined
  joined-long [] s = omega arith
  joined-long (x ∷ xs) s =
      length-append (f.bytes x) (joined f.bytes xs) ∙
      omega (arith, s 0 (omega arith), joined-long xs (λ k h. s (suc k) (omega arith)), suc-mul (length xs) f.size)

  module _ (b : List ℕ) where
    row-held : (xs : List A) (i : ℕ) → Sized xs → Holds b i (joined f.bytes xs) → (k : ℕ) → k < length xs → Holds b (i + k * f.size) (f.bytes (get_or xs k d))
    unfolding joined
    row-held [] i s h k l = absurd (omega arith)
    row-held (x ∷ xs) i s h zero l =
        subst (λ (n : ℕ). Holds b n (f.bytes x)) (sym (row-0 i f.size)) (left b i (f.bytes x) (joined f.bytes xs) h)
    row-held (x ∷ xs) i s h (suc k) l =
        subst (λ (n : ℕ). Holds b n (f.bytes (get_or xs k d))) (sym (row_next i k f.size))
        (row-held xs (i + f.size) (λ n e. s (suc n) (omega arith)) (right b i (f.bytes x) (joined f.bytes xs) f.size (s 0 (omega arith)) h) k (le_of_suc-le-suc l))

    joined-part : (xs : List A) (i : ℕ) → ((k : ℕ) → k < length xs → f.bytes (get_or xs k d) ≡ part b (i + k * f.size) f.size) →
        joined f.bytes xs ≡ part b i (length xs * f.size)
    unfolding joined
    joined-part [] i h = ap (part b i) (sym (zero-mul f.size))
    joined-part (x ∷ xs) i h =
        (λ j. here j ++ joined-part xs (i + f.size) there j) ∙ sym (part-add b i f.size (length xs * f.size)) ∙
        ap (part b i) (sym (suc-mul (length xs) f.size ∙ add_comm (length xs * f.size) f.size))
      where
        here : f.bytes x ≡ part b i f.size
        here = h 0 (omega arith) ∙ ap (λ (n : ℕ). part b n f.size) (row-0 i f.size)

        there : (k : ℕ) → k < length xs → f.bytes (get_or xs k d) ≡ part b (i + f.size + k * f.size) f.size
        there k l = h (suc k) (omega arith) ∙ ap (λ (n : ℕ). part b n f.size) (row_next i k f.size)

-- a list is given by what it holds at each index
given_by : {A : Type 0} (n : ℕ) (d : A) (f : ℕ → A) (xs : List A) → length xs ≡ n → ((k : ℕ) → k < n → f k ≡ get_or xs k d) → tabulate n f ≡ xs
given_by n d f xs e v =
    ext_get_or d (tabulate n f) xs (tabulate-length f n ∙ sym e)
    (λ k h. let l : k < n = subst (λ (m : ℕ). k < m) (tabulate-length f n) h in tabulate-at f d n k l ∙ v k l)

module _ {A : Type 0} {f : Format A} (n : ℕ) (d : A) (F : Lawful f Always Always) where
  abbrev value-at : List ℕ → ℕ → ℕ → A
  value-at b i k = f.value b (i + k * f.size)

  abbrev proper-at : List ℕ → ℕ → ℕ → Bool
  proper-at b i k = f.proper b (i + k * f.size)

  held_back : (xs : List A) → length xs ≡ n → (b : List ℕ) (i : ℕ) → Holds b i (joined f.bytes xs) → (k : ℕ) → k < n → (value-at b i k ≡ get_or xs k d) × (proper-at b i k ≡ true)
  held_back xs e b i h k l = F.back _ tt tt b _ (row-held f d b xs i (λ m g. F.long _ tt) h k (omega arith))

  pub rows-laws : Lawful (rows_of n f) (λ xs. length xs ≡ n) Always
  rows-laws =
      record {
        long = λ xs e. joined-long f d xs (λ k h. F.long _ tt) ∙ ap (λ (m : ℕ). m * f.size) e;
        back = λ xs e r b i h.
            let x = held_back xs e b i h in (given_by n d (value-at b i) xs e (λ k l. (x k l).0), all n (proper-at b i) (λ k l. (x k l).1));
        forth = λ b i s h p.
            let e : length (tabulate n (value-at b i)) ≡ n = tabulate-length (value-at b i) n in
            joined-part f d b (tabulate n (value-at b i)) i
            (λ k l. ap f.bytes (tabulate-at (value-at b i) d n k (omega arith)) ∙
            F.forth b _ s (row_fits i n k f.size (length b) (omega arith) h) (each n (proper-at b i) p k (omega arith))) ∙
            ap (λ (m : ℕ). part b i (m * f.size)) e;
      }

-- a run of zeros
zeros-fine : (b : List ℕ) (n i : ℕ) → Holds b i (replicate n 0) → zeros b i n ≡ true
unfolding all_from
zeros-fine b zero i h = refl
zeros-fine b (suc n) i h =
    join (eq-eqb _ _ (first b i 0 (replicate n 0) h)) (zeros-fine b n (i + 1) (right b i (0 ∷ []) (replicate n 0) 1 refl h))

zeros-part : (b : List ℕ) (n i : ℕ) → i + n ≤ length b → zeros b i n ≡ true → replicate n 0 ≡ part b i n
unfolding all_from
zeros-part b zero i h e = refl
zeros-part b (suc n) i h e =
    let t = both (eqb (get_or b i 0) 0) (zeros b (i + 1) n) e in
    (λ j. sym (eqb-true (get_or b i 0) 0 t.0) j ∷ zeros-part b n (i + 1) (omega arith) t.1 j) ∙
    sym (ap (take (suc n)) (drop-cons b i 0 (omega arith)) ∙ ap (λ (k : ℕ). get_or b i 0 ∷ take n (drop k b)) (sym (add-one i)))

-- n rows, and of them the first c in use; d is what lies past their end
pub record Rows {A : Type 0} (n : ℕ) (d : A) (L : A → Type 0) (xs : List A) : Type 0 where
  pub room : length xs ≡ n
  pub rows : (k : ℕ) → k < n → L (get_or xs k d)

pub record Counted {A : Type 0} (n : ℕ) (none d : A) (R : A → Type 0) (c : ℕ) (xs : List A) : Type 0 where
  pub most : c ≤ n
  pub used : (k : ℕ) → k < c → R (get_or xs k d)
  pub unused : (k : ℕ) → c ≤ k → k < n → get_or xs k d ≡ none

rest_of : (n c m s : ℕ) → m + (n - c) ≡ n → m * s + (n - c) * s ≡ n * s
rest_of n c m s e = sym (add-mul m (n - c) s) ∙ ap (λ (k : ℕ). k * s) e

chosen : {A : Type 0} (t : Bool) {x y z : A} → (t ≡ true → x ≡ z) → (t ≡ false → y ≡ z) → (if t then x else y) ≡ z
chosen true p q = p refl
chosen false p q = q refl

module _ {A : Type 0} {f : Format A} {L R : A → Type 0} (n : ℕ) (none d : A) (F : Lawful f L R) where
  module _ (c : ℕ) (xs : List A) (l : Rows n d L xs) where
    abbrev front : List ℕ
    front = joined f.bytes (take c xs)

    abbrev rest : List ℕ
    rest = replicate ((n - c) * f.size) 0

    taken-sized : Sized f d (take c xs)
    taken-sized k h = let e = length-take c xs in rw (get_or-take c xs k d (omega arith)) (F.long _ (l.rows k (omega arith)))

    counted-long : length ((counted n none f).bytes (c, xs)) ≡ 1 + n * f.size
    counted-long =
        let e = length-append front rest in
        let g : length front ≡ min c n * f.size = joined-long f d (take c xs) taken-sized ∙ rw (length-take, l.room) in
        omega (arith, length-replicate {A = ℕ} ((n - c) * f.size) 0, rest_of n c (min c n) f.size (omega arith))

    module _ (r : Counted n none d R c xs) (b : List ℕ) (i : ℕ) (h : Holds b i ((counted n none f).bytes (c, xs))) where
      taken : length (take c xs) ≡ c
      taken = length-take-le c xs (omega (arith, l.room, r.most))

      after-count : Holds b (i + 1) (front ++ rest)
      after-count = right b i (c ∷ []) (front ++ rest) 1 refl h

      after-rows : Holds b (i + 1 + c * f.size) rest
      after-rows =
          right b (i + 1) front rest (c * f.size) (joined-long f d (take c xs) taken-sized ∙ ap (λ (k : ℕ). k * f.size) taken) after-count

      row_back : (k : ℕ) → k < c → (f.value b (i + 1 + k * f.size) ≡ get_or xs k d) × (f.proper b (i + 1 + k * f.size) ≡ true)
      row_back k g =
          F.back _ (l.rows k (omega (arith, r.most))) (r.used k g) b (i + 1 + k * f.size)
          (rw (get_or-take c xs k d g) at (row-held f d b (take c xs) (i + 1) taken-sized (left b (i + 1) front rest after-count) k (rw taken g)))

      rows_back : tabulate n (λ k. if ltb k c then f.value b (i + 1 + k * f.size) else none) ≡ xs
      rows_back =
          given_by n d (λ k. if ltb k c then f.value b (i + 1 + k * f.size) else none) xs l.room
          (λ k g. chosen (ltb k c) (λ t. (row_back k (ltb-true k c t)).0) (λ t. sym (r.unused k (ltb-false k c t) g)))

      rows-fine : all_from c 0 (λ k. f.proper b (i + 1 + k * f.size)) ≡ true
      rows-fine = all c (λ k. f.proper b (i + 1 + k * f.size)) (λ k g. (row_back k g).1)

      counted_back : ((counted n none f).value b i ≡ (c, xs)) × ((counted n none f).proper b i ≡ true)
      counted_back =
          rw (first b i c (front ++ rest) h)
          (ap (λ (ys : List A). (c, ys)) rows_back, join (le-leb c n r.most) (join rows-fine (zeros-fine b _ (i + 1 + c * f.size) after-rows)))

  module _ (b : List ℕ) (i c : ℕ) (s : (k : ℕ) → get_or b k 0 < 256) (m : c ≤ n) (h : i + (1 + n * f.size) ≤ length b) where
    abbrev read : ℕ → A
    read k = if ltb k c then f.value b (i + 1 + k * f.size) else none

    abbrev sound : ℕ → Bool
    sound k = f.proper b (i + 1 + k * f.size)

    row-forth : all_from c 0 sound ≡ true → (k : ℕ) → k < c → f.bytes (get_or (take c (tabulate n read)) k d) ≡ part b (i + 1 + k * f.size) f.size
    row-forth p k l =
        ap f.bytes (get_or-take c (tabulate n read) k d l ∙ tabulate-at read d n k (omega arith) ∙ simp (lt-ltb k c l)) ∙
        F.forth b (i + 1 + k * f.size) s (row_fits (i + 1) n k f.size (length b) (omega arith) (omega arith)) (each c sound p k l)

    rows-forth : all_from c 0 sound ≡ true → joined f.bytes (take c (tabulate n read)) ≡ part b (i + 1) (c * f.size)
    rows-forth p =
        let g : length (take c (tabulate n read)) ≡ c = length-take-le c (tabulate n read) (rw (tabulate-length read n) m) in
        joined-part f d b (take c (tabulate n read)) (i + 1) (λ k l. row-forth p k (omega arith)) ∙ ap (λ (k : ℕ). part b (i + 1) (k * f.size)) g

  counted-forth : (b : List ℕ) (i : ℕ) → ((k : ℕ) → get_or b k 0 < 256) → i + (1 + n * f.size) ≤ length b → (counted n none f).proper b i ≡ true → (counted n none f).bytes ((counted n none f).value b i) ≡ part b i (1 + n * f.size)
  counted-forth b i s h p =
      let c : ℕ = get_or b i 0 in
      let t = both (leb c n) _ p in
      let u = both (all_from c 0 (λ k. f.proper b (i + 1 + k * f.size))) _ t.1 in
      let m : c ≤ n = leb-true c n t.0 in
      let w : c * f.size + (n - c) * f.size ≡ n * f.size = rest_of n c c f.size (omega arith) in
      (λ j. c ∷ (rows-forth b i c s m h u.0 j ++ zeros-part b ((n - c) * f.size) (i + 1 + c * f.size) (omega arith) u.1 j)) ∙
      sym (part-add b i 1 (n * f.size) ∙ (λ j. part-one b i (omega arith) j ++ part b (i + 1) (sym w j)) ∙
      ap (λ (ys : List ℕ). c ∷ ys) (part-add b (i + 1) (c * f.size) ((n - c) * f.size)))

  pub counted-laws : Lawful (counted n none f) (λ p. Rows n d L p.1) (λ p. Counted n none d R p.0 p.1)
  counted-laws =
      record {
        long = λ p l. counted-long p.0 p.1 l;
        back = λ p l r b i h. counted_back p.0 p.1 l r b i h;
        forth = counted-forth;
      }
