-- The image of a layout with its words has that layout and those words.
use Prim.Native.Nat.{ℕ, zero, suc, ◌+◌, ◌*◌, ◌/◌, ◌%◌, ◌^◌, ◌<◌, ◌≤◌}
use native.Mathlib.Omega.{arith}
use native.Mathlib.Nat.{zero-add}
use mathlib.Core.Path.{◌≡◌, refl, sym, ap, ◌∙◌, subst}
use mathlib.Core.Bool.{Bool, true, false, ◌&&◌}
use mathlib.Core.List.{List, [], ◌∷◌, ◌++◌, map}
use lib.Dec.{ltb, leb, eqb}
use lib.ListN.{length, get_or, take, drop, length-map, get_or-eq_default}
use lib.Seq.{ext_get_or, get_or-take, get_or-drop, take-add, length-take-le}
use borrow.Author.Tests.{le-ltb, le-leb, ltb-true, ltb-false, eqb-true}
use Rattle.state.specs.declared.record.Layout.{Layout}
use Rattle.state.specs.Bases.{base_of, words_in}
use Rattle.state.proofs.Sums.{base-next, base-zero}
use Rattle.layout_soundness.specs.SoundLayout.{all_from, between, segment_test, stack_test, rights_test, gates_test, ranges_test}
use Rattle.layout_soundness.proofs.Tests.{join, both, else-part}
use Rattle.layout_soundness.proofs.All.{each}
use Rattle.soundness.proofs.Facts.{LayoutSound}
use Rattle.image_format.specs.Bytes.{joined}
use Rattle.image_format.specs.Segment.{Segment, all_words}
use Rattle.image_format.specs.Domain.{Domain, all_rights}
use Rattle.image_format.specs.Image.{layout_of, gates_pass, padded, all_rows, rows_from, segment_at, domain_at, segments_in, domains_in, image_from}
use Rattle.image_format.proofs.Joined.{joined_snoc, rows_next, rows-length}
use Rattle.image_format.proofs.Padded.{padded-length}
use Rattle.image_format.proofs.Sizes.{segment-words, domain-rights, words-all}
use Rattle.roundtrips.proofs.Good.{All, Good, GoodSegment, GoodDomain}
use Rattle.roundtrips.proofs.AcceptedSound.{no_segment, no_domain, padded-at, padded-past, map_at, map-past, rights-at, rows-size}
use Rattle.roundtrips.proofs.WriteBack.{below-drop, below-take}
use Rattle.roundtrips.specs.Statements.{Below, Arrays}

pub rows_at : {A : Type 0} (row : ℕ → A) (i n j : ℕ) (d : A) → j < n → get_or (rows_from row i n) j d ≡ row (i + j)
unfolding rows_from
rows_at row i zero j d h = absurd (omega arith)
rows_at row i (suc n) zero d h = ap row (omega arith)
rows_at row i (suc n) (suc j) d h = rows_at row (i + 1) n j d (omega arith) ∙ ap row (omega arith)

pub all-rows : {A : Type 0} (P : A → Type 0) (row : ℕ → A) (i n : ℕ) → ((j : ℕ) → j < n → P (row (i + j))) → All P (rows_from row i n)
unfolding rows_from
all-rows P row i zero f = tt
all-rows P row i (suc n) f = (subst (λ (k : ℕ). P (row k)) (omega arith) (f 0 (omega arith)), all-rows P row (i + 1) n (λ j h. subst (λ (k : ℕ). P (row k)) (omega arith) (f (suc j) (omega arith))))

all_small : (rs : List ℕ) → ((j : ℕ) → get_or rs j 0 ≤ 15) → all_rights rs ≡ true
unfolding all_rights
all_small [] f = refl
all_small (r ∷ rs) f = join (le-leb r 15 (f 0)) (all_small rs (λ j. f (suc j)))

-- what a sound layout has in rows that are not used
record Zeros (l : Layout) : Type 0 where
  gatedomains : (j : ℕ) → l.segments ≤ j → j < 16 → get_or l.gatedomains j 0 ≡ 0
  stacks : (j : ℕ) → l.domains ≤ j → j < 8 → get_or l.stacks j 0 ≡ 0
  no-domain : (j : ℕ) → l.domains ≤ j / 16 → j < 128 → get_or l.rights j 0 ≡ 0
  no-segment : (j : ℕ) → l.segments ≤ j % 16 → j < 128 → get_or l.rights j 0 ≡ 0

abbrev segment_ok : Layout → ℕ → Bool
segment_ok l i = segment_test l.segments l.domains i (get_or l.lengths i 0) (get_or l.gates i 0) (get_or l.gatedomains i 0)

abbrev stack_ok : Layout → ℕ → Bool
stack_ok l i = stack_test l.segments l.domains i (get_or l.stacks i 0)

abbrev rights_ok : Layout → ℕ → Bool
rights_ok l i = rights_test l.segments l.domains i (get_or l.rights i 0)

and-false : (a : Bool) {b : Bool} → b ≡ false → (a && b) ≡ false
and-false true e = e
and-false false e = refl

zeros : (l : Layout) → ranges_test l ≡ true → Zeros l
unfolding ranges_test segment_test stack_test rights_test
zeros l e =
    let t = both (between 1 16 l.segments) _ e in
    let u = both (between 1 8 l.domains) _ t.1 in
    let v = both (all_from 16 0 (segment_ok l)) _ u.1 in
    let w = both (leb (words_in l.lengths) 8192) _ v.1 in
    let x = both (all_from 8 0 (stack_ok l)) _ w.1 in
    let y = both (all_from 128 0 (rights_ok l)) _ x.1 in
    let past : (j : ℕ) → j < 128 → (ltb (j / 16) l.domains && ltb (j % 16) l.segments) ≡ false → get_or l.rights j 0 ≡ 0 =
    λ j h q. eqb-true _ 0 (else-part (leb (get_or l.rights j 0) 15) q (each 128 (rights_ok l) y.0 j h)) in
    record {
      gatedomains = λ j n h. eqb-true _ 0 (both (eqb (get_or l.gates j 0) 0) _ (both (eqb (get_or l.lengths j 0) 0) _ (else-part _ (le-ltb j l.segments n) (each 16 (segment_ok l) v.0 j h))).1).1;
      stacks = λ j n h. eqb-true _ 0 (else-part _ (le-ltb j l.domains n) (each 8 (stack_ok l) x.0 j h));
      no-domain = λ j n h. past j h (ap (λ (b : Bool). b && ltb (j % 16) l.segments) (le-ltb (j / 16) l.domains n));
      no-segment = λ j n h. past j h (and-false (ltb (j / 16) l.domains) (le-ltb (j % 16) l.segments n));
    }

-- numbers that are taken from rows and padded again
rows_back : {A : Type 0} (f : A → ℕ) (n count : ℕ) (row : ℕ → A) (d : A) (xs : List ℕ) → f d ≡ 0 → length xs ≡ n → count ≤ n
    → ((j : ℕ) → j < count → f (row j) ≡ get_or xs j 0) → ((j : ℕ) → count ≤ j → j < n → get_or xs j 0 ≡ 0) → padded n (map f (rows_from row 0 count)) ≡ xs
rows_back f n count row d xs z size few used unused =
    let k : length (map f (rows_from row 0 count)) ≡ count = length-map (rows_from row 0 count) f ∙ rows-length row 0 count in
    let m : length (padded n (map f (rows_from row 0 count))) ≡ n = padded-length n (map f (rows_from row 0 count)) (omega arith) in
    ext_get_or 0 _ xs (m ∙ sym size) (λ j h. by j (subst (λ (x : ℕ). j < x) m h) (ltb j count) refl)
  where
    by : (j : ℕ) → j < n → (t : Bool) → ltb j count ≡ t → get_or (padded n (map f (rows_from row 0 count))) j 0 ≡ get_or xs j 0
    by j h true p =
        let l = ltb-true j count p in
        map_at f n (rows_from row 0 count) d j z (rw (rows-length row 0 count) l) ∙ ap f (rows_at row 0 count j d l ∙ ap row (zero-add j)) ∙ used j l
    by j h false p = let l = ltb-false j count p in map-past f n (rows_from row 0 count) j (rw (rows-length row 0 count) l) ∙ sym (unused j l h)

module _ (l : Layout) (words : List ℕ) (s : LayoutSound l) (a : Arrays l) (enough : 8192 ≤ length words) where
  abbrev segment : ℕ → Segment
  segment = segment_at l.lengths l.gates l.gatedomains words

  abbrev domain : ℕ → Domain
  domain = domain_at l.segments l.stacks l.rights

  count-segments : length (segments_in l words) ≡ l.segments
  count-segments = rows-length segment 0 l.segments

  count-domains : length (domains_in l) ≡ l.domains
  count-domains = rows-length domain 0 l.domains

  -- the words of the first segments are the first words
  first-words : (i : ℕ) → i ≤ 16 → all_words (rows_from segment 0 i) ≡ take (base_of l.lengths i) words
  unfolding joined rows_from
  first-words zero h = ap (λ (n : ℕ). take n words) (sym (base-zero l.lengths))
  first-words (suc i) h =
      ap (λ (n : ℕ). all_words (rows_from segment 0 n)) (let e : suc i ≡ i + 1 = omega arith in e) ∙ ap (joined (λ (x : Segment). x.words)) (rows_next segment i) ∙ joined_snoc (λ (x : Segment). x.words) (rows_from segment 0 i) (segment i) ∙
      ap (λ (ys : List ℕ). ys ++ (segment i).words) (first-words i (omega arith)) ∙ sym (take-add (base_of l.lengths i) (get_or l.lengths i 0) words) ∙
      ap (λ (n : ℕ). take n words) (sym (base-next l.lengths i) ∙ ap (base_of l.lengths) (let e : i + 1 ≡ suc i = omega arith in e))

  pub words-in-order : all_words (segments_in l words) ≡ take (words_in l.lengths) words
  words-in-order = first-words l.segments s.segments ∙ ap (λ (n : ℕ). take n words) (words-all l s)

  pub words_count : length (all_words (segments_in l words)) ≡ words_in l.lengths
  words_count = ap length words-in-order ∙ length-take-le (words_in l.lengths) words (omega (arith, s.words))

  good-segment : (j : ℕ) → j < l.segments → GoodSegment l.domains (segment j)
  good-segment j h =
      let h16 : j < 16 = omega (arith, s.segments) in
      let e = segment-words l words s enough j h16 in
      record {
        some = rw e (s.used j h);
        most = rw e (s.lengths j h16);
        gates = rw e (s.gates j h16);
        domain = s.gatedomains j h16;
      }

  good-domain : (j : ℕ) → j < l.domains → GoodDomain l.segments (domain j)
  good-domain j h =
      let h8 : j < 8 = omega (arith, s.domains) in
      record {
        stack = s.stacks j h8;
        count = domain-rights l s a.rights j h8;
        rights = all_small (domain j).rights (λ k. small k (ltb k l.segments) refl h8);
      }
    where
      small : (k : ℕ) → (t : Bool) → ltb k l.segments ≡ t → j < 8 → get_or (take l.segments (drop (16 * j) l.rights)) k 0 ≤ 15
      small k true p h8 =
          let q = ltb-true k l.segments p in
          rw (get_or-take l.segments (drop (16 * j) l.rights) k 0 q, get_or-drop (16 * j) l.rights k 0) (s.rights (16 * j + k) (omega (arith, s.segments)))
      small k false p h8 =
          let q = ltb-false k l.segments p in
          rw (get_or-eq_default (take l.segments (drop (16 * j) l.rights)) 0 {n = k} (omega (arith, domain-rights l s a.rights j h8))) (omega arith)

  all-domains : All (GoodDomain l.segments) (domains_in l)
  all-domains = all-rows (GoodDomain l.segments) domain 0 l.domains (λ j h. subst (λ (k : ℕ). GoodDomain l.segments (domain k)) (sym (zero-add j)) (good-domain j h))

  pub good-image : Good (image_from l words)
  good-image =
      record {
        some-segments = rw count-segments s.some-segments;
        segments-most = rw count-segments s.segments;
        some-domains = rw count-domains s.some-domains;
        domains-most = rw count-domains s.domains;
        start-domain = rw count-domains s.start-domain;
        start-segment = rw count-segments s.start-segment;
        start_word = s.start_word;
        segments = rw count-domains (all-rows (GoodSegment l.domains) segment 0 l.segments (λ j h. subst (λ (k : ℕ). GoodSegment l.domains (segment k)) (sym (zero-add j)) (good-segment j h)));
        domains = rw count-segments all-domains;
        words = rw words_count s.words;
      }

  pub wide-image : Below (2 ^ 32) words → All (λ x. Below (2 ^ 32) x.words) (segments_in l words)
  wide-image b =
      all-rows (λ x. Below (2 ^ 32) x.words) segment 0 l.segments
      (λ j h. below-take (2 ^ 32) (get_or l.lengths (0 + j) 0) (drop (base_of l.lengths (0 + j)) words) (omega arith) (below-drop (2 ^ 32) (base_of l.lengths (0 + j)) words b))

  z : Zeros l
  z = zeros l s.tested

  rights-back : padded 128 (all_rows (domains_in l)) ≡ l.rights
  rights-back =
      let size : length (all_rows (domains_in l)) ≡ 16 * l.domains = rows-size l.segments (domains_in l) s.segments all-domains ∙ ap (λ (n : ℕ). 16 * n) count-domains in
      let m : length (padded 128 (all_rows (domains_in l))) ≡ 128 = padded-length 128 (all_rows (domains_in l)) (omega (arith, s.domains)) in
      ext_get_or 0 _ l.rights (m ∙ sym a.rights) (λ j h. by j (subst (λ (x : ℕ). j < x) m h) size (ltb (j / 16) l.domains) refl)
    where
      cell : (j : ℕ) → j < 128 → j / 16 < l.domains → (t : Bool) → ltb (j % 16) l.segments ≡ t → get_or (padded 16 (take l.segments (drop (16 * (j / 16)) l.rights))) (j % 16) 0 ≡ get_or l.rights j 0
      cell j h d true p =
          let q = ltb-true (j % 16) l.segments p in
          let k = domain-rights l s a.rights (j / 16) (omega (arith, s.domains)) in
          padded-at 16 _ (j % 16) (rw k q) ∙ get_or-take l.segments (drop (16 * (j / 16)) l.rights) (j % 16) 0 q ∙ get_or-drop (16 * (j / 16)) l.rights (j % 16) 0 ∙
          ap (λ (x : ℕ). get_or l.rights x 0) (let e : 16 * (j / 16) + j % 16 ≡ j = omega arith in e)
      cell j h d false p =
          let q = ltb-false (j % 16) l.segments p in
          let k = domain-rights l s a.rights (j / 16) (omega (arith, s.domains)) in
          padded-past 16 _ (j % 16) (rw k q) ∙ sym (z.no-segment j q h)

      by : (j : ℕ) → j < 128 → length (all_rows (domains_in l)) ≡ 16 * l.domains → (t : Bool) → ltb (j / 16) l.domains ≡ t → get_or (padded 128 (all_rows (domains_in l))) j 0 ≡ get_or l.rights j 0
      by j h size true p =
          let d = ltb-true (j / 16) l.domains p in
          let below : j < 16 * l.domains = omega arith in
          padded-at 128 (all_rows (domains_in l)) j (rw size below) ∙
          rights-at l.segments (domains_in l) j s.segments all-domains (rw count-domains below) ∙
          ap (λ (x : Domain). get_or (padded 16 x.rights) (j % 16) 0) (rows_at domain 0 l.domains (j / 16) no_domain d ∙ ap domain (zero-add (j / 16))) ∙
          cell j h d (ltb (j % 16) l.segments) refl
      by j h size false p =
          let d : l.domains ≤ j / 16 = ltb-false (j / 16) l.domains p in
          padded-past 128 (all_rows (domains_in l)) j (rw size (let e : 16 * l.domains ≤ j = omega arith in e)) ∙ sym (z.no-domain j d h)

  pub layout-back : layout_of (image_from l words) ≡ l
  unfolding layout_of
  layout-back =
      let few = s.segments in
      λ j. record {
        lengths = rows_back (λ (x : Segment). length x.words) 16 l.segments segment no_segment l.lengths refl a.lengths few (λ k h. segment-words l words s enough k (omega arith)) s.unused j;
        gates = rows_back (λ (x : Segment). x.gates) 16 l.segments segment no_segment l.gates refl a.gates few (λ k h. refl) (λ k n h. omega (arith, s.gates k h, s.unused k n h)) j;
        start = l.start;
        gatedomains = rows_back (λ (x : Segment). x.domain) 16 l.segments segment no_segment l.gatedomains refl a.gatedomains few (λ k h. refl) z.gatedomains j;
        stacks = rows_back (λ (x : Domain). x.stack) 8 l.domains domain no_domain l.stacks refl a.stacks s.domains (λ k h. refl) z.stacks j;
        rights = rights-back j;
        segments = count-segments j;
        domains = count-domains j;
      }

  -- so its gates pass where the layout's do
  pub gates-back : gates_pass (image_from l words) ≡ gates_test l.gates l.gatedomains l.rights
  gates-back = ap (λ (x : Layout). gates_test x.gates x.gatedomains x.rights) layout-back
