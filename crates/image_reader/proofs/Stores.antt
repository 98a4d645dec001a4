-- How a loop stores the words of an image, segment after segment.
use Prim.Native.Nat.{ℕ, suc, ◌+◌, ◌-◌, ◌*◌, ◌/◌, ◌<◌, ◌≤◌}
use native.Mathlib.Omega.{arith}
use mathlib.Core.Path.{◌≡◌, refl, sym, ap, ◌∙◌, subst}
use mathlib.Core.List.{List, [], ◌∷◌, ◌++◌, append-nil, map}
use lib.ListN.{length, get_or, take, drop, length-append, length-drop}
use lib.Seq.{paste, take_at, drop-append-add, drop-drop, append_snoc, take_all}
use Rattle.words.specs.Answer.{Answer, refuse, ok}
use Rattle.state.specs.declared.record.Layout.{Layout}
use Rattle.image_format.specs.Bytes.{pair_of, words_of, joined}
use Rattle.image_format.specs.Chunk.{Read}
use Rattle.image_format.specs.Segment.{Segment, word_count, segments_of, all_words, lengths_of}
use Rattle.image_format.specs.Image.{Image, image_of, layout_of, padded}
use Rattle.image_reader.specs.Reader.{mapped, memory_after}
use Rattle.image_format.proofs.Answers.{no_value, the_value}
use Rattle.image_format.proofs.Joined.{joined_snoc}
use Rattle.image_format.proofs.Parts.{words-length}
use Rattle.image_format.proofs.Bodies.{words-is}
use Rattle.image_format.proofs.Segments.{SegmentPassed, segment-facts, segment-count}
use Rattle.image_format.proofs.Images.{image-facts, head-facts, Segmented, segments-facts, segments-end, segments-count}

pub record Mapped {A B : Type 0} (f : A → B) (a : Answer A) (y : B) : Type 0 where
  pub value : A
  pub is : a ≡ ok value
  pub gives : f value ≡ y

pub mapped-facts : {A B : Type 0} (f : A → B) (a : Answer A) {y : B} → mapped f a ≡ ok y → Mapped f a y
mapped-facts f (refuse n) e = no_value e
mapped-facts f (ok x) e = record { value = x; is = refl; gives = the_value e }

pub mapped-refused : {A B : Type 0} (f : A → B) (a : Answer A) (n : ℕ) → mapped f a ≡ refuse n → a ≡ refuse n
mapped-refused f (refuse m) n e = let q : m ≡ n = cc in ap refuse q
mapped-refused f (ok x) n e = no_value (sym e)

after-done : {A : Type 0} (f : A → ℕ) (done : List A) (x : A) (rest : List A) (zs : List ℕ) → get_or (map f (done ++ (x ∷ rest)) ++ zs) (length done) 0 ≡ f x
after-done f [] x rest zs = refl
after-done f (y ∷ ys) x rest zs = after-done f ys x rest zs

-- the row after those that are done
pub row_at : {A : Type 0} (f : A → ℕ) (n : ℕ) (done : List A) (x : A) (rest : List A) (i : ℕ) → length done ≡ i → get_or (padded n (map f (done ++ (x ∷ rest)))) i 0 ≡ f x
unfolding padded
row_at f n done x rest i e = rw (← e) (after-done f done x rest _)

-- words put after those that are stored
pub stored_more : (xs ys ws : List ℕ) (base n : ℕ) → length xs ≡ base → length ys ≡ n → paste (xs ++ drop base ws) base ys n ≡ (xs ++ ys) ++ drop (base + n) ws
stored_more xs ys ws base n e h =
    let a : take base (xs ++ drop base ws) ≡ xs = take_at xs (drop base ws) base e in
    let b : take n ys ≡ ys = take_all n ys (omega arith) in
    let c : drop (base + n) (xs ++ drop base ws) ≡ drop (base + n) ws =
    ap (λ (k : ℕ). drop (k + n) (xs ++ drop base ws)) (sym e) ∙ drop-append-add xs (drop base ws) n ∙ drop-drop n base ws in
    λ j. a j ++ b j ++ c j

pub record StoredSoFar (bytes ws lengths : List ℕ) (count : ℕ) (words : List ℕ) (at base i : ℕ) : Type 0 where
  pub image : Image
  pub image-is : image_of bytes ≡ ok image
  pub lengths-is : lengths ≡ padded 16 (lengths_of image.segments)
  pub domains : ℕ
  pub done : List Segment
  pub others : List Segment
  pub tail : List ℕ
  pub most : i ≤ count
  pub few : count ≤ 16
  pub split : image.segments ≡ done ++ others
  pub counted : length done ≡ i
  pub base-is : length (all_words done) ≡ base
  pub fits : base ≤ 8192
  pub enough : 8192 ≤ length ws
  pub words_are : words ≡ all_words done ++ drop base ws
  pub left : segments_of (count - i) domains (8192 - base) (drop at bytes) ≡ ok (record { value = others; rest = tail })

pub stored-none : (bytes ws : List ℕ) (layout : Layout) → mapped layout_of (image_of bytes) ≡ ok layout → 8192 ≤ length ws → StoredSoFar bytes ws layout.lengths layout.segments ws 12 0 0
unfolding layout_of joined
stored-none bytes ws layout e h =
    let m = mapped-facts layout_of (image_of bytes) e in
    let f = image-facts bytes m.is in
    let g = head-facts bytes f.head-is in
    let ss : f.segments.value ≡ m.value.segments = ap (λ (i : Image). i.segments) f.is in
    let count : f.head.value.segments ≡ layout.segments =
    sym (segments-count _ _ _ _ f.segments-is) ∙ ap length ss ∙ ap (λ (l : Layout). l.segments) m.gives in
    let most : f.head.value.segments ≤ 16 = subst (λ (n : ℕ). n ≤ 16) (ap (λ h. h.segments) g.body.is) g.body.segments-most in
    record {
      image = m.value;
      image-is = m.is;
      lengths-is = sym (ap (λ (l : Layout). l.lengths) m.gives);
      domains = f.head.value.domains;
      done = [];
      others = m.value.segments;
      tail = f.segments.rest;
      most = omega arith;
      few = subst (λ (n : ℕ). n ≤ 16) count most;
      split = refl;
      counted = refl;
      base-is = refl;
      fits = omega arith;
      enough = h;
      words_are = refl;
      left =
          (λ j. segments_of ((let z : layout.segments - 0 ≡ layout.segments = omega arith in z ∙ sym count) j) f.head.value.domains 8192 (sym g.rest-is j)) ∙ f.segments-is ∙
          ap (λ (v : List Segment). ok (record { value = v; rest = f.segments.rest })) ss;
    }

module _ (bytes ws lengths words : List ℕ) (count at base i : ℕ) (f : StoredSoFar bytes ws lengths count words at base i) where
  pub stored-length : length words ≡ length ws
  stored-length =
      ap length f.words_are ∙ length-append (all_words f.done) (drop base ws) ∙
      (let e : length (all_words f.done) + length (drop base ws) ≡ length ws = omega (arith, f.base-is, f.fits, f.enough, length-drop base ws) in e)

  pub stored-done : count ≤ i → words ≡ memory_after ws (image_of bytes)
  unfolding memory_after segments_of
  stored-done h =
      let z : count - i ≡ 0 = omega (arith, f.most) in
      let e = segments-end f.domains (8192 - base) (drop at bytes) (ap (λ (n : ℕ). segments_of n f.domains (8192 - base) (drop at bytes)) (sym z) ∙ f.left) in
      let none : [] ≡ f.others = ap (λ (r : Read (List Segment)). r.value) e in
      let all : f.done ≡ f.image.segments = sym (append-nil f.done) ∙ ap (λ (l : List Segment). f.done ++ l) none ∙ sym f.split in
      f.words_are ∙ ap (λ (n : ℕ). all_words f.done ++ drop n ws) (sym f.base-is) ∙ ap (λ (ss : List Segment). all_words ss ++ drop (length (all_words ss)) ws) all ∙
      ap (memory_after ws) (sym f.image-is)

  module _ (less : i < count) (n : ℕ) (e : n ≡ get_or lengths i 0) where
    abbrev k : ℕ
    k = count - (i + 1)

    next : count - i ≡ suc k
    next = omega arith

    sg : Segmented k f.domains (8192 - base) (drop at bytes) (record { value = f.others; rest = f.tail })
    sg = segments-facts k f.domains (8192 - base) (drop at bytes) (ap (λ (m : ℕ). segments_of m f.domains (8192 - base) (drop at bytes)) (sym next) ∙ f.left)

    abbrev r : Segment
    r = sg.first.value

    p : SegmentPassed f.domains (8192 - base) (drop at bytes) sg.first
    p = segment-facts f.domains (8192 - base) (drop at bytes) sg.first-is

    abbrev size : ℕ
    size = pair_of (drop at bytes)

    others-are : r ∷ sg.others.value ≡ f.others
    others-are = ap (λ (x : Read (List Segment)). x.value) sg.is

    n-is : n ≡ length r.words
    n-is =
        e ∙ ap (λ (l : List ℕ). get_or l i 0) (f.lengths-is ∙ ap (λ (ss : List Segment). padded 16 (lengths_of ss)) (f.split ∙ ap (λ (ss : List Segment). f.done ++ ss) (sym others-are))) ∙
        row_at (λ s. length s.words) 16 f.done r sg.others.value i f.counted

    n-count : n ≡ word_count size
    n-count = n-is ∙ segment-count f.domains (8192 - base) (drop at bytes) p

    whole : size ≡ 4 + 4 * n
    whole = let w = p.length-is.whole in let s = p.length-is.some in let c : n ≡ (size - 4) / 4 = n-count in omega arith

    pub place-fits : at + 8 + 4 * n ≤ length bytes
    place-fits = let h = p.room-is in let w = whole in omega (arith, length-drop at bytes)

    pub base-fits : base + n ≤ 8192
    base-fits = let h = p.length-is.fits in let c : n ≡ (size - 4) / 4 = n-count in omega (arith, f.fits)

    words-of : r.words ≡ words_of n (drop (at + 8) bytes)
    words-of = p.words-is ∙ words-is bytes at size p.length-is.some p.room-is ∙ ap (λ (m : ℕ). words_of m (drop (at + 8) bytes)) (sym n-count)

    rest_of : sg.first.rest ≡ drop (at + (8 + 4 * n)) bytes
    rest_of =
        p.rest-is ∙ drop-drop (4 + size) at bytes ∙ ap (λ (m : ℕ). drop m bytes) (let q : at + (4 + size) ≡ at + (8 + 4 * n) = omega (arith, whole) in q)

    pub stored_next : StoredSoFar bytes ws lengths count (paste words base (words_of n (drop (at + 8) bytes)) n) (at + (8 + 4 * n)) (base + n) (i + 1)
    stored_next =
        record {
          image = f.image;
          image-is = f.image-is;
          lengths-is = f.lengths-is;
          domains = f.domains;
          done = f.done ++ (r ∷ []);
          others = sg.others.value;
          tail = f.tail;
          most = omega arith;
          few = f.few;
          split = f.split ∙ ap (λ (ss : List Segment). f.done ++ ss) (sym others-are) ∙ sym (append_snoc f.done r sg.others.value);
          counted = length-append f.done (r ∷ []) ∙ ap (λ (m : ℕ). m + 1) f.counted;
          base-is = ap length (joined_snoc (λ s. s.words) f.done r) ∙ length-append (all_words f.done) r.words ∙ (λ j. f.base-is j + sym n-is j);
          fits = base-fits;
          enough = f.enough;
          words_are =
              ap (λ (l : List ℕ). paste l base (words_of n (drop (at + 8) bytes)) n) f.words_are ∙
              stored_more (all_words f.done) (words_of n (drop (at + 8) bytes)) ws base n f.base-is (words-length n (drop (at + 8) bytes)) ∙
              ap (λ (l : List ℕ). (all_words f.done ++ l) ++ drop (base + n) ws) (sym words-of) ∙ ap (λ (l : List ℕ). l ++ drop (base + n) ws) (sym (joined_snoc (λ s. s.words) f.done r));
          left =
              (λ j. segments_of k f.domains ((let q : 8192 - (base + n) ≡ 8192 - base - length r.words = omega (arith, n-is) in q) j) (sym rest_of j)) ∙ sg.others-is ∙
              ap (λ (t : List ℕ). ok (record { value = sg.others.value; rest = t })) (ap (λ (x : Read (List Segment)). x.rest) sg.is);
        }
