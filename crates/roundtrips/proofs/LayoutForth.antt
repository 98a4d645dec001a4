-- The image of the layout and the words that an image gives is that image.
use Prim.Native.Nat.{ℕ, zero, suc, ◌+◌, ◌-◌, ◌*◌, ◌<◌, ◌≤◌}
use native.Mathlib.Omega.{arith}
use native.Mathlib.Nat.{zero-add}
use mathlib.Core.Path.{◌≡◌, refl, sym, ap, ◌∙◌, subst}
use mathlib.Core.List.{List, [], ◌∷◌, ◌++◌, append_assoc}
use lib.ListN.{length, get_or, take, drop, replicate, length-append}
use lib.Seq.{ext_get_or, split_at, take-suc, take_at, drop_at, length-take-le}
use Rattle.state.specs.Bases.{base_of}
use Rattle.state.proofs.Sums.{base-next, base-zero}
use Rattle.image_format.specs.Bytes.{joined}
use Rattle.image_format.specs.Segment.{Segment, all_words, lengths_of, gates_of, gatedomains_of}
use Rattle.image_format.specs.Domain.{Domain, stacks_of}
use Rattle.image_format.specs.Image.{Image, layout_of, padded, all_rows, rows_from, segment_at, domain_at, image_from}
use Rattle.image_format.proofs.Joined.{joined-append, joined_snoc, rows-length}
use Rattle.roundtrips.proofs.Good.{All, all-at, Good, GoodDomain}
use Rattle.roundtrips.proofs.AcceptedSound.{no_segment, no_domain, map_at, rows-size}
use Rattle.roundtrips.proofs.LayoutBack.{rows_at}

all_take : {A : Type 0} (P : A → Type 0) (n : ℕ) (xs : List A) → All P xs → All P (take n xs)
all_take P zero xs a = tt
all_take P (suc n) [] a = tt
all_take P (suc n) (x ∷ xs) a = (a.0, all_take P n xs a.1)

joined-cons : {A : Type 0} (f : A → List ℕ) (x : A) (xs : List A) → joined f (x ∷ xs) ≡ f x ++ joined f xs
unfolding joined
joined-cons f x xs = refl

-- what element j gives, with what comes before and after it
joined-split : {A : Type 0} (f : A → List ℕ) (xs : List A) (j : ℕ) (d : A) → j < length xs → joined f xs ≡ joined f (take j xs) ++ (f (get_or xs j d) ++ joined f (drop (suc j) xs))
joined-split f xs j d h =
    ap (joined f) (split_at xs j d h) ∙ joined-append f (take j xs) (get_or xs j d ∷ drop (suc j) xs) ∙ ap (λ (ys : List ℕ). joined f (take j xs) ++ ys) (joined-cons f (get_or xs j d) (drop (suc j) xs))

-- rows that are read off, one by one
rows_are : {A : Type 0} (row : ℕ → A) (xs : List A) (d : A) → ((j : ℕ) → j < length xs → row j ≡ get_or xs j d) → rows_from row 0 (length xs) ≡ xs
rows_are row xs d e =
    ext_get_or d _ xs (rows-length row 0 (length xs))
    (λ j h. let l : j < length xs = subst (λ (n : ℕ). j < n) (rows-length row 0 (length xs)) h in rows_at row 0 (length xs) j d l ∙ ap row (zero-add j) ∙ e j l)

part : (a b c : List ℕ) (m n : ℕ) → length a ≡ m → length b ≡ n → take n (drop m (a ++ (b ++ c))) ≡ b
part a b c m n e f = ap (take n) (drop_at a (b ++ c) m e) ∙ take_at b c n f

module _ (i : Image) (g : Good i) (tail : List ℕ) where
  abbrev ss : List Segment
  ss = i.segments

  abbrev ds : List Domain
  ds = i.domains

  abbrev lengths : List ℕ
  lengths = padded 16 (lengths_of ss)

  length_at : (j : ℕ) → j < length ss → get_or lengths j 0 ≡ length (get_or ss j no_segment).words
  length_at j h = map_at (λ (s : Segment). length s.words) 16 ss no_segment j refl h

  base-is : (j : ℕ) → j ≤ length ss → length (all_words (take j ss)) ≡ base_of lengths j
  unfolding joined
  base-is zero h = sym (base-zero lengths)
  base-is (suc j) h =
      ap (λ (xs : List Segment). length (all_words xs)) (take-suc ss j no_segment (omega arith)) ∙ ap length (joined_snoc (λ (s : Segment). s.words) (take j ss) (get_or ss j no_segment)) ∙
      length-append (all_words (take j ss)) (get_or ss j no_segment).words ∙ (λ k. base-is j (omega arith) k + sym (length_at j (omega arith)) k) ∙ sym (base-next lengths j) ∙ ap (base_of lengths) (let e : j + 1 ≡ suc j = omega arith in e)

  words-at : (j : ℕ) → j < length ss → take (get_or lengths j 0) (drop (base_of lengths j) (all_words ss ++ tail)) ≡ (get_or ss j no_segment).words
  words-at j h =
      let a = all_words (take j ss) in
      let b = (get_or ss j no_segment).words in
      let c = all_words (drop (suc j) ss) in
      let e : all_words ss ++ tail ≡ a ++ (b ++ (c ++ tail)) =
      ap (λ (ys : List ℕ). ys ++ tail) (joined-split (λ (s : Segment). s.words) ss j no_segment h) ∙ append_assoc a (b ++ c) tail ∙ ap (λ (ys : List ℕ). a ++ ys) (append_assoc b c tail) in
      ap (λ (ys : List ℕ). take (get_or lengths j 0) (drop (base_of lengths j) ys)) e ∙ part a b (c ++ tail) (base_of lengths j) (get_or lengths j 0) (base-is j (omega arith)) (sym (length_at j h))

  segments-are : rows_from (segment_at lengths (padded 16 (gates_of ss)) (padded 16 (gatedomains_of ss)) (all_words ss ++ tail)) 0 (length ss) ≡ ss
  segments-are =
      rows_are _ ss no_segment (λ j h k. record {
        gates = map_at (λ (s : Segment). s.gates) 16 ss no_segment j refl h k;
        domain = map_at (λ (s : Segment). s.domain) 16 ss no_segment j refl h k;
        words = words-at j h k;
      })

  abbrev row : Domain → List ℕ
  row d = padded 16 d.rights

  rights-at : (j : ℕ) → j < length ds → take (length ss) (drop (16 * j) (padded 128 (all_rows ds))) ≡ (get_or ds j no_domain).rights
  unfolding padded
  rights-at j h =
      let d = get_or ds j no_domain in
      let a = joined row (take j ds) in
      let b = joined row (drop (suc j) ds) in
      let zs : List ℕ = replicate (16 - length d.rights) 0 in
      let us : List ℕ = replicate (128 - length (all_rows ds)) 0 in
      let e : joined row ds ++ us ≡ a ++ (d.rights ++ (zs ++ (b ++ us))) =
      ap (λ (ys : List ℕ). ys ++ us) (joined-split row ds j no_domain h) ∙ append_assoc a (row d ++ b) us ∙ ap (λ (ys : List ℕ). a ++ ys) (append_assoc (row d) b us ∙ append_assoc d.rights zs (b ++ us)) in
      let size : length a ≡ 16 * j = rows-size (length ss) (take j ds) g.segments-most (all_take (GoodDomain (length ss)) j ds g.domains) ∙ ap (λ (n : ℕ). 16 * n) (length-take-le j ds (omega arith)) in
      ap (λ (ys : List ℕ). take (length ss) (drop (16 * j) ys)) e ∙ part a d.rights (zs ++ (b ++ us)) (16 * j) (length ss) size (all-at (GoodDomain (length ss)) ds no_domain g.domains j h).count

  domains-are : rows_from (domain_at (length ss) (padded 8 (stacks_of ds)) (padded 128 (all_rows ds))) 0 (length ds) ≡ ds
  domains-are =
      rows_are _ ds no_domain (λ j h k. record { stack = map_at (λ (d : Domain). d.stack) 8 ds no_domain j refl h k; rights = rights-at j h k })

  pub image-again : image_from (layout_of i) (all_words ss ++ tail) ≡ i
  unfolding layout_of
  image-again = λ k. record { start = i.start; segments = segments-are k; domains = domains-are k }
