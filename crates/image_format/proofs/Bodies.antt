-- The fields of a body, where its chunk lies in an image.
use Prim.Native.Nat.{ℕ, ◌+◌, ◌-◌, ◌*◌, ◌/◌, ◌<◌, ◌≤◌}
use native.Mathlib.Omega.{arith}
use mathlib.Core.Path.{◌≡◌, sym, ap, ◌∙◌}
use mathlib.Core.List.{List}
use lib.ListN.{length, get_or, take, drop, length-drop}
use lib.Dec.{ltb}
use lib.Seq.{length-take-le, get_or-take, get_or-drop, drop-drop, ext_get_or}
use Rattle.words.specs.Answer.{ok, ◌>>◌, require}
use Rattle.image_format.specs.Bytes.{pair_of, word_of, words_of}
use Rattle.image_format.specs.Chunk.{Read, chunk_at}
use Rattle.image_format.specs.Head.{head_fields, head_body}
use Rattle.image_format.specs.Domain.{all_rights, domain_body, domain_read}
use Rattle.image_format.specs.Segment.{Segment, word_count, segment_fields, segment_body, segment_read}
use Rattle.image_format.proofs.Answers.{then_ok}
use Rattle.image_format.proofs.Parts.{pair_same, word_same, words_same, body_at, body-from, body-start}

pub body-length : (bytes : List ℕ) (n : ℕ) → 4 + n ≤ length bytes → length (take n (drop 4 bytes)) ≡ n
body-length bytes n h = length-take-le n (drop 4 bytes) (omega (arith, length-drop 4 bytes))

pub head-body : (image : List ℕ)
    → head_body (take 8 (drop 4 image)) ≡ head_fields (get_or image 4 0) (get_or image 5 0) (get_or image 6 0) (get_or image 7 0) (word_of (drop 8 image))
unfolding head_body
head-body image =
    rw (
      body_at image 8 0 (omega arith),
      body_at image 8 1 (omega arith),
      body_at image 8 2 (omega arith),
      body_at image 8 3 (omega arith),
      word_same (drop 4 (take 8 (drop 4 image))) (drop 8 image) (body-from image 8 4 4 (omega arith)),
    )

-- what is read in the body of n bytes of the chunk at a place
abbrev pub segment_in : List ℕ → ℕ → ℕ → Read Segment
segment_in image at n =
    record {
      value = record { gates = pair_of (drop (at + 4) image); domain = get_or image (at + 6) 0; words = words_of (word_count n) (drop (at + 8) image) };
      rest = drop (at + 4 + n) image;
    }

module _ (image : List ℕ) (at n : ℕ) (some : 8 ≤ n) (room : 4 + n ≤ length (drop at image)) where
  abbrev bytes : List ℕ
  bytes = drop at image

  abbrev body : List ℕ
  body = take n (drop 4 bytes)

  pair_is : pair_of body ≡ pair_of (drop (at + 4) image)
  pair_is = pair_same body (drop 4 bytes) (body-start bytes n 2 (omega arith)) ∙ ap pair_of (drop-drop 4 at image)

  at-is : (i : ℕ) → i < n → get_or body i 0 ≡ get_or image (at + (4 + i)) 0
  at-is i h = body_at bytes n i h ∙ get_or-drop at image (4 + i) 0

  pub words-is : words_of (word_count n) (drop 4 body) ≡ words_of (word_count n) (drop (at + 8) image)
  words-is =
      words_same (word_count n) (drop 4 body) (drop 8 bytes) (body-from bytes n 4 (4 * word_count n) (let h : 4 + 4 * ((n - 4) / 4) ≤ n = omega arith in h)) ∙
      ap (words_of (word_count n)) (drop-drop 8 at image)

  rest-is : drop (4 + n) bytes ≡ drop (at + 4 + n) image
  rest-is = drop-drop (4 + n) at image ∙ ap (λ (k : ℕ). drop k image) (let e : at + (4 + n) ≡ at + 4 + n = omega arith in e)

  pub segment-body : (domains : ℕ)
      → segment_read domains (chunk_at n bytes) ≡ (segment_fields domains (word_count n) (pair_of (drop (at + 4) image)) (get_or image (at + 6) 0) (get_or image (at + 7) 0) >> ok (segment_in image at n))
  unfolding segment_body
  segment-body domains =
      rw (body-length bytes n room, pair_is, at-is 2 (omega arith), at-is 3 (omega arith), words-is, rest-is)
      (then_ok (segment_fields domains (word_count n) (pair_of (drop (at + 4) image)) (get_or image (at + 6) 0) (get_or image (at + 7) 0)) (segment_in image at n).value (λ s. record { value = s; rest = drop (at + 4 + n) image }))

-- what is read in the body of a domain's chunk at a place
module _ (image : List ℕ) (at segments : ℕ) (room : 4 + (1 + segments) ≤ length (drop at image)) where
  abbrev bytes' : List ℕ
  bytes' = drop at image

  rights-is : drop 1 (take (1 + segments) (drop 4 bytes')) ≡ take segments (drop (at + 5) image)
  rights-is =
      let a : length (drop 1 (take (1 + segments) (drop 4 bytes'))) ≡ segments =
      length-drop 1 (take (1 + segments) (drop 4 bytes')) ∙ ap (λ (n : ℕ). n - 1) (body-length bytes' (1 + segments) room) ∙ (let e : 1 + segments - 1 ≡ segments = omega arith in e) in
      let b : length (take segments (drop (at + 5) image)) ≡ segments = length-take-le segments (drop (at + 5) image) (omega (arith, length-drop (at + 5) image, length-drop at image)) in
      ext_get_or 0 _ _ (a ∙ sym b) (λ i h. let l : i < segments = rw (← a) h in
      body-from bytes' (1 + segments) 1 segments (omega arith) i l ∙ ap (λ (ys : List ℕ). get_or ys i 0) (drop-drop 5 at image) ∙ sym (get_or-take segments (drop (at + 5) image) i 0 l))

  pub domain-body : domain_read segments (chunk_at (1 + segments) bytes') ≡
      ((require (ltb (get_or image (at + 4) 0) segments) 4 >> require (all_rights (take segments (drop (at + 5) image))) 4) >>
      ok (record { value = record { stack = get_or image (at + 4) 0; rights = take segments (drop (at + 5) image) }; rest = drop (at + 5 + segments) image }))
  unfolding domain_body
  domain-body =
      rw (
        body_at bytes' (1 + segments) 0 (omega arith) ∙ get_or-drop at image 4 0,
        rights-is,
        drop-drop (4 + (1 + segments)) at image ∙ ap (λ (k : ℕ). drop k image) (let e : at + (4 + (1 + segments)) ≡ at + 5 + segments = omega arith in e),
      )
      (then_ok (require (ltb (get_or image (at + 4) 0) segments) 4 >> require (all_rights (take segments (drop (at + 5) image))) 4) (record { stack = get_or image (at + 4) 0; rights = take segments (drop (at + 5) image) }) (λ d. record { value = d; rest = drop (at + 5 + segments) image }))
