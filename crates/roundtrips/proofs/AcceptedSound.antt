-- The machine of an accepted image is sound.
use Prim.Native.Nat.{ℕ, zero, suc, ◌+◌, ◌-◌, ◌*◌, ◌/◌, ◌%◌, ◌<◌, ◌≤◌}
use native.Mathlib.Omega.{arith}
use mathlib.Core.Path.{◌≡◌, refl, sym, ap, ◌∙◌}
use mathlib.Core.Bool.{Bool, true, false, ◌&&◌}
use mathlib.Core.List.{List, [], ◌∷◌, ◌++◌, map}
use lib.Dec.{ltb, leb, eqb}
use lib.ListN.{length, get_or, replicate, length-append, length-map, get_or-append, get_or-map}
use lib.Seq.{get_or-append-add, take_all}
use borrow.Author.Tests.{lt-ltb, le-leb, eq-eqb, ltb-true, ltb-false, leb-true}
use Rattle.words.specs.Answer.{ok}
use Rattle.state.specs.Bases.{total, base_of, words_in}
use Rattle.layout_soundness.specs.SoundLayout.{between, segment_test, stack_test, rights_test, start_test, ranges_test, layout_test}
use Rattle.soundness.specs.Sound.{sound_test}
use Rattle.fresh.specs.Fresh.{fresh_of}
use Rattle.layout_soundness.proofs.Tests.{join, inside, both, either-part}
use Rattle.layout_soundness.proofs.All.{all}
use Rattle.soundness.proofs.FreshSound.{fresh-sound}
use Rattle.image_format.specs.Bytes.{joined}
use Rattle.image_format.specs.Segment.{Segment, all_words, lengths_of, gates_of, gatedomains_of}
use Rattle.image_format.specs.Domain.{Domain, all_rights, stacks_of}
use Rattle.image_format.specs.Image.{Image, gates_pass, image_of, layout_of, padded, all_rows}
use Rattle.image_format.proofs.Padded.{padded-length}
use Rattle.image_format.proofs.Images.{image-facts}
use Rattle.roundtrips.proofs.Good.{All, all-at, Good, GoodSegment, GoodDomain}
use Rattle.roundtrips.proofs.Accepted.{accepted}

abbrev pub no_segment : Segment
no_segment = record { gates = 0; domain = 0; words = [] }

abbrev pub no_domain : Domain
no_domain = record { stack = 0; rights = [] }

-- a row that is there, and one that is not
pub padded-at : (n : ℕ) (xs : List ℕ) (i : ℕ) → i < length xs → get_or (padded n xs) i 0 ≡ get_or xs i 0
unfolding padded
padded-at n xs i h = get_or-append xs (replicate (n - length xs) 0) 0 i h

abbrev zeros : ℕ → List ℕ
zeros n = replicate n 0

zeros-at : (n i : ℕ) → get_or (zeros n) i 0 ≡ 0
zeros-at zero i = refl
zeros-at (suc n) zero = refl
zeros-at (suc n) (suc i) = zeros-at n i

pub padded-past : (n : ℕ) (xs : List ℕ) (i : ℕ) → length xs ≤ i → get_or (padded n xs) i 0 ≡ 0
unfolding padded
padded-past n xs i h =
    ap (λ (k : ℕ). get_or (xs ++ replicate (n - length xs) 0) k 0) (let e : i ≡ length xs + (i - length xs) = omega arith in e) ∙
    get_or-append-add xs (replicate (n - length xs) 0) (i - length xs) 0 ∙ zeros-at (n - length xs) (i - length xs)

pub map_at : {A : Type 0} (f : A → ℕ) (n : ℕ) (xs : List A) (d : A) (i : ℕ) → f d ≡ 0 → i < length xs → get_or (padded n (map f xs)) i 0 ≡ f (get_or xs i d)
map_at f n xs d i z h =
    padded-at n (map f xs) i (rw (length-map xs f) h) ∙ ap (λ (k : ℕ). get_or (map f xs) i k) (sym z) ∙ get_or-map f xs i d

pub map-past : {A : Type 0} (f : A → ℕ) (n : ℕ) (xs : List A) (i : ℕ) → length xs ≤ i → get_or (padded n (map f xs)) i 0 ≡ 0
map-past f n xs i h = padded-past n (map f xs) i (rw (length-map xs f) h)

-- rights are at most 15
rights-most : (rs : List ℕ) (i : ℕ) → all_rights rs ≡ true → get_or rs i 0 ≤ 15
unfolding all_rights
rights-most [] i e = omega arith
rights-most (r ∷ rs) zero e = leb-true r 15 (both (leb r 15) (all_rights rs) e).0
rights-most (r ∷ rs) (suc i) e = rights-most rs i (both (leb r 15) (all_rights rs) e).1

padded-most : (n : ℕ) (rs : List ℕ) (i : ℕ) → all_rights rs ≡ true → get_or (padded n rs) i 0 ≤ 15
padded-most n rs i e = by (ltb i (length rs)) refl
  where
    by : (t : Bool) → ltb i (length rs) ≡ t → get_or (padded n rs) i 0 ≤ 15
    by true p = rw (padded-at n rs i (ltb-true _ _ p)) (rights-most rs i e)
    by false p = rw (padded-past n rs i (ltb-false _ _ p)) (omega arith)

-- the rights of domain i / 16 on segment i % 16
pub rights-at : (segments : ℕ) (ds : List Domain) (i : ℕ) → segments ≤ 16 → All (GoodDomain segments) ds → i < 16 * length ds → get_or (all_rows ds) i 0 ≡ get_or (padded 16 (get_or ds (i / 16) no_domain).rights) (i % 16) 0
unfolding joined
rights-at segments [] i n g h = absurd (omega arith)
rights-at segments (d ∷ ds) i n g h = by (ltb i 16) refl (λ k l. rights-at segments ds k n g.1 l)
  where
    size : length (padded 16 d.rights) ≡ 16
    size = padded-length 16 d.rights (rw g.0.count n)

    by : (t : Bool) → ltb i 16 ≡ t → ((k : ℕ) → k < 16 * length ds → get_or (all_rows ds) k 0 ≡ get_or (padded 16 (get_or ds (k / 16) no_domain).rights) (k % 16) 0) → get_or (padded 16 d.rights ++ all_rows ds) i 0 ≡ get_or (padded 16 (get_or (d ∷ ds) (i / 16) no_domain).rights) (i % 16) 0
    by true p r =
        let l = ltb-true i 16 p in
        get_or-append (padded 16 d.rights) (all_rows ds) 0 i (rw size l) ∙
        (λ j. get_or (padded 16 (get_or (d ∷ ds) ((let q : 0 ≡ i / 16 = omega arith in q) j) no_domain).rights) ((let q : i ≡ i % 16 = omega arith in q) j) 0)
    by false p r =
        let l = ltb-false i 16 p in
        let k : ℕ = i - 16 in
        let a : suc (k / 16) ≡ i / 16 = omega arith in
        let b : k % 16 ≡ i % 16 = omega arith in
        ap (λ (m : ℕ). get_or (padded 16 d.rights ++ all_rows ds) m 0) (let q : i ≡ length (padded 16 d.rights) + k = omega (arith, size) in q) ∙
        get_or-append-add (padded 16 d.rights) (all_rows ds) k 0 ∙ r k (omega arith) ∙
        (λ j. get_or (padded 16 (get_or (d ∷ ds) (a j) no_domain).rights) (b j) 0)

pub rows-size : (segments : ℕ) (ds : List Domain) → segments ≤ 16 → All (GoodDomain segments) ds → length (all_rows ds) ≡ 16 * length ds
unfolding joined
rows-size segments [] n g = refl
rows-size segments (d ∷ ds) n g =
    length-append (padded 16 d.rights) (all_rows ds) ∙
    (let p = padded-length 16 d.rights (rw g.0.count n) in let q = rows-size segments ds n g.1 in let r : length (padded 16 d.rights) + length (all_rows ds) ≡ 16 * suc (length ds) = omega arith in r)

total-append : (xs ys : List ℕ) → total (xs ++ ys) ≡ total xs + total ys
total-append [] ys = omega arith
total-append (x ∷ xs) ys = let e = total-append xs ys in omega arith

total-zeros : (n : ℕ) → total (zeros n) ≡ 0
total-zeros zero = refl
total-zeros (suc n) = let e = total-zeros n in omega arith

total-words : (ss : List Segment) → total (lengths_of ss) ≡ length (all_words ss)
unfolding joined
total-words [] = refl
total-words (s ∷ ss) = let e = total-words ss in let l = length-append s.words (all_words ss) in omega arith

total-padded : (n : ℕ) (xs : List ℕ) → total (padded n xs) ≡ total xs
unfolding padded
total-padded n xs = total-append xs (zeros (n - length xs)) ∙ (let z = total-zeros (n - length xs) in let e : total xs + total (zeros (n - length xs)) ≡ total xs = omega arith in e)

pub words-in : (ss : List Segment) → length ss ≤ 16 → words_in (padded 16 (lengths_of ss)) ≡ length (all_words ss)
unfolding base_of
words-in ss h =
    let l : length (lengths_of ss) ≤ 16 = rw (length-map ss (λ s. length s.words)) h in
    ap total (take_all 16 (padded 16 (lengths_of ss)) (let q = padded-length 16 (lengths_of ss) l in omega arith)) ∙ total-padded 16 (lengths_of ss) ∙ total-words ss

module _ (i : Image) (g : Good i) where
  abbrev segments : ℕ
  segments = length i.segments

  abbrev domains : ℕ
  domains = length i.domains

  segment-sound : (j : ℕ) → segment_test segments domains j (get_or (padded 16 (lengths_of i.segments)) j 0) (get_or (padded 16 (gates_of i.segments)) j 0) (get_or (padded 16 (gatedomains_of i.segments)) j 0) ≡ true
  unfolding segment_test
  segment-sound j = either-part (ltb j segments) there past
    where
      there : ltb j segments ≡ true → (between 1 4096 (get_or (padded 16 (lengths_of i.segments)) j 0) && (leb (get_or (padded 16 (gates_of i.segments)) j 0) (get_or (padded 16 (lengths_of i.segments)) j 0) && ltb (get_or (padded 16 (gatedomains_of i.segments)) j 0) domains)) ≡ true
      there t =
          let h = ltb-true j segments t in
          let s = all-at (GoodSegment domains) i.segments no_segment g.segments j h in
          rw (map_at (λ s. length s.words) 16 i.segments no_segment j refl h, map_at (λ s. s.gates) 16 i.segments no_segment j refl h, map_at (λ s. s.domain) 16 i.segments no_segment j refl h)
          (join (inside s.some s.most) (join (le-leb _ _ s.gates) (lt-ltb _ _ s.domain)))

      past : ltb j segments ≡ false → (eqb (get_or (padded 16 (lengths_of i.segments)) j 0) 0 && (eqb (get_or (padded 16 (gates_of i.segments)) j 0) 0 && eqb (get_or (padded 16 (gatedomains_of i.segments)) j 0) 0)) ≡ true
      past t =
          let h = ltb-false j segments t in
          join (eq-eqb _ 0 (map-past (λ s. length s.words) 16 i.segments j h)) (join (eq-eqb _ 0 (map-past (λ s. s.gates) 16 i.segments j h)) (eq-eqb _ 0 (map-past (λ s. s.domain) 16 i.segments j h)))

  stack-sound : (j : ℕ) → stack_test segments domains j (get_or (padded 8 (stacks_of i.domains)) j 0) ≡ true
  unfolding stack_test
  stack-sound j =
      either-part (ltb j domains)
      (λ t. let h = ltb-true j domains t in rw (map_at (λ d. d.stack) 8 i.domains no_domain j refl h) (lt-ltb _ _ (all-at (GoodDomain segments) i.domains no_domain g.domains j h).stack))
      (λ t. eq-eqb _ 0 (map-past (λ d. d.stack) 8 i.domains j (ltb-false j domains t)))

  size : length (all_rows i.domains) ≡ 16 * domains
  size = rows-size segments i.domains g.segments-most g.domains

  -- where the domain exists, its row; else zero
  at : (j : ℕ) → j / 16 < domains → get_or (padded 128 (all_rows i.domains)) j 0 ≡ get_or (padded 16 (get_or i.domains (j / 16) no_domain).rights) (j % 16) 0
  at j h =
      let l : j < 16 * domains = omega arith in
      padded-at 128 (all_rows i.domains) j (rw size l) ∙ rights-at segments i.domains j g.segments-most g.domains l

  right-sound : (j : ℕ) → rights_test segments domains j (get_or (padded 128 (all_rows i.domains)) j 0) ≡ true
  unfolding rights_test
  right-sound j = either-part (ltb (j / 16) domains && ltb (j % 16) segments) there (past (ltb (j / 16) domains) refl)
    where
      there : (ltb (j / 16) domains && ltb (j % 16) segments) ≡ true → leb (get_or (padded 128 (all_rows i.domains)) j 0) 15 ≡ true
      there t =
          let h = ltb-true _ _ (both (ltb (j / 16) domains) _ t).0 in
          rw (at j h) (le-leb _ _ (padded-most 16 (get_or i.domains (j / 16) no_domain).rights (j % 16) (all-at (GoodDomain segments) i.domains no_domain g.domains (j / 16) h).rights))

      past : (t : Bool) → ltb (j / 16) domains ≡ t → (t && ltb (j % 16) segments) ≡ false → eqb (get_or (padded 128 (all_rows i.domains)) j 0) 0 ≡ true
      past true p t =
          let h = ltb-true _ _ p in
          let d = all-at (GoodDomain segments) i.domains no_domain g.domains (j / 16) h in
          eq-eqb _ 0 (at j h ∙ padded-past 16 (get_or i.domains (j / 16) no_domain).rights (j % 16) (rw d.count (ltb-false _ _ t)))
      past false p t =
          let h : domains ≤ j / 16 = ltb-false _ _ p in
          eq-eqb _ 0 (padded-past 128 (all_rows i.domains) j (rw size (let l : 16 * domains ≤ j = omega arith in l)))

  pub layout-sound : gates_pass i ≡ true → layout_test (layout_of i) ≡ true
  unfolding layout_test ranges_test start_test layout_of
  layout-sound passes =
      join (join (inside g.some-segments g.segments-most) (join (inside g.some-domains g.domains-most) (
      join (all 16 (λ j. segment_test segments domains j (get_or (padded 16 (lengths_of i.segments)) j 0) (get_or (padded 16 (gates_of i.segments)) j 0) (get_or (padded 16 (gatedomains_of i.segments)) j 0)) (λ j h. segment-sound j)) (
      join (le-leb (words_in (padded 16 (lengths_of i.segments))) 8192 (rw (words-in i.segments g.segments-most) g.words)) (
      join (all 8 (λ j. stack_test segments domains j (get_or (padded 8 (stacks_of i.domains)) j 0)) (λ j h. stack-sound j)) (
      join (all 128 (λ j. rights_test segments domains j (get_or (padded 128 (all_rows i.domains)) j 0)) (λ j h. right-sound j))
      (join (lt-ltb _ _ g.start-domain) (join (lt-ltb _ _ g.start-segment) (le-leb _ _ g.start_word))))))))) passes

-- the fresh machine of an accepted image is sound
pub accepted-sound : (bytes : List ℕ) (i : Image) → image_of bytes ≡ ok i → sound_test (fresh_of (layout_of i)) ≡ true
accepted-sound bytes i e = fresh-sound (layout_of i) (layout-sound i (accepted bytes i e) (image-facts bytes e).gates-pass)
