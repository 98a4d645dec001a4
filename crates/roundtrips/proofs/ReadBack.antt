-- Reading what is written: each combinator, then the image.
use Prim.Native.Nat.{ℕ, suc, ◌+◌, ◌-◌, ◌*◌, ◌/◌, ◌%◌, ◌^◌, ◌<◌, ◌≤◌}
use native.Mathlib.Omega.{arith}
use mathlib.Core.Path.{◌≡◌, refl, sym, ap, ◌∙◌}
use mathlib.Core.Bool.{true, false}
use mathlib.Core.List.{List, [], ◌∷◌, ◌++◌, append_assoc, append-nil}
use lib.ListN.{length, drop, length-append}
use lib.Seq.{take-append_seam, drop-append_seam}
use borrow.Author.Tests.{lt-ltb, le-leb, eq-eqb}
use Rattle.words.specs.Answer.{Answer, ok}
use Rattle.words.specs.PointerWord.{pointer_of, pointer_word}
use Rattle.words.specs.declared.pointer.Pointer.{Pointer}
use Rattle.words.proofs.RoundTrips.{unpack-packed}
use Rattle.image_format.specs.Bytes.{pair_of, pair_bytes, word_of, word_bytes, words_of, words_bytes, joined}
use Rattle.image_format.specs.Chunk.{chunk_at, header_of, chunk_of, exactly, chunk_bytes}
use Rattle.image_format.specs.Head.{head_fields, head_body, head_of, head_bytes, start_word}
use Rattle.image_format.specs.Segment.{Segment, word_count, segment_length, segment_fields, segment_body, segment_of, segments_of, segment_bytes, segments_bytes, all_words}
use Rattle.image_format.specs.Domain.{Domain, domain_body, domain_of, domains_of, domain_bytes, domains_bytes}
use Rattle.image_format.specs.Image.{Image, gates_pass, chunks_of, image_of, bytes_of}
use Rattle.image_format.specs.declared.Head.{Head}
use Rattle.roundtrips.proofs.Good.{All, Good, GoodSegment, GoodDomain}
use Rattle.image_format.proofs.Written.{words_size}
use Rattle.roundtrips.specs.Statements.{Below}

pub pair-back : (n : ℕ) (rest : List ℕ) → n < 65536 → pair_of (pair_bytes n ++ rest) ≡ n
unfolding pair_of pair_bytes
pair-back n rest h = omega arith

halves : (w : ℕ) → w < 2 ^ 32 → w % 65536 + w / 65536 * 65536 ≡ w
halves w h = omega arith

pub word_back : (w : ℕ) (rest : List ℕ) → w < 2 ^ 32 → word_of (word_bytes w ++ rest) ≡ w
unfolding word_of word_bytes pair_bytes
word_back w rest h =
    let a = pair-back (w % 65536) (pair_bytes (w / 65536) ++ rest) (omega arith) in
    let b = pair-back (w / 65536) rest (let q : w / 65536 < 65536 = omega arith in q) in
    (λ j. a j + b j * 65536) ∙ halves w h

pub words_back : (ws rest : List ℕ) → Below (2 ^ 32) ws → words_of (length ws) (words_bytes ws ++ rest) ≡ ws
unfolding words_of joined word_bytes pair_bytes
words_back [] rest b = refl
words_back (w ∷ ws) rest b = λ j. word_back w (words_bytes ws ++ rest) (b 0) j ∷ words_back ws rest (λ k. b (suc k)) j

module _ (kind : ℕ) (allowed : ℕ → Answer (Unit {0})) (body rest : List ℕ) (few : kind < 65536) (short : length body < 65536) (passes : allowed (length body) ≡ ok tt) where
  size : length (chunk_bytes kind body ++ rest) ≡ 4 + (length body + length rest)
  unfolding chunk_bytes pair_bytes
  size = let e = length-append body rest in omega arith

  length-is : pair_of (chunk_bytes kind body ++ rest) ≡ length body
  unfolding chunk_bytes pair_bytes
  length-is = pair-back (length body) (pair_bytes kind ++ (body ++ rest)) short

  kind-is : pair_of (drop 2 (chunk_bytes kind body ++ rest)) ≡ kind
  unfolding chunk_bytes pair_bytes
  kind-is = pair-back kind (body ++ rest) few

  past-header : drop (4 + length body) (chunk_bytes kind body ++ rest) ≡ drop (length body) (body ++ rest)
  unfolding chunk_bytes pair_bytes
  past-header = ap (λ (n : ℕ). drop n (chunk_bytes kind body ++ rest)) (let e : 4 + length body ≡ suc (suc (suc (suc (length body)))) = omega arith in e)

  at-is : chunk_at (length body) (chunk_bytes kind body ++ rest) ≡ record { value = body; rest = rest }
  unfolding chunk_bytes pair_bytes
  at-is = λ j. record { value = take-append_seam body rest j; rest = (past-header ∙ drop-append_seam body rest) j }

  header_is : header_of kind (chunk_bytes kind body ++ rest) ≡ ok (length body)
  unfolding header_of
  header_is = simp (le-leb 4 (length (chunk_bytes kind body ++ rest)) (omega (arith, size)), eq-eqb _ _ kind-is, length-is)

  -- a chunk
  pub chunk_back : chunk_of kind allowed (chunk_bytes kind body ++ rest) ≡ ok (record { value = body; rest = rest })
  unfolding chunk_of
  chunk_back = simp (header_is, passes, le-leb (4 + length body) (length (chunk_bytes kind body ++ rest)) (omega (arith, size))) (ap ok at-is)

module _ (domains room : ℕ) (s : Segment) (rest : List ℕ) (g : GoodSegment domains s) (fits : length s.words ≤ room) (wide : Below (2 ^ 32) s.words) where
  abbrev body' : List ℕ
  body' = pair_bytes s.gates ++ (s.domain ∷ 0 ∷ words_bytes s.words)

  body-size : length body' ≡ 4 + 4 * length s.words
  unfolding pair_bytes
  body-size = let e = words_size s.words in omega arith

  count-is : word_count (length body') ≡ length s.words
  count-is = let e = body-size in let q : (length body' - 4) / 4 ≡ length s.words = omega arith in q

  length-passes : segment_length room (length body') ≡ ok tt
  unfolding segment_length
  length-passes =
      let e = body-size in
      simp (
        le-leb 8 (length body') (omega (arith, g.some)),
        le-leb (length body') 16388 (omega (arith, g.most)),
        eq-eqb (length body' % 4) 0 (omega arith),
        count-is,
        le-leb (length s.words) room fits,
      )

  pair_is : pair_of body' ≡ s.gates
  pair_is = pair-back s.gates (s.domain ∷ 0 ∷ words_bytes s.words) (omega (arith, g.gates, g.most))

  words_are : words_of (length s.words) (words_bytes s.words) ≡ s.words
  words_are = ap (words_of (length s.words)) (sym (append-nil (words_bytes s.words))) ∙ words_back s.words [] wide

  body_back : segment_body domains body' ≡ ok s
  unfolding segment_body segment_fields pair_bytes
  body_back =
      simp (
        count-is,
        pair_is,
        le-leb s.gates (length s.words) g.gates,
        lt-ltb s.domain domains g.domain,
        words_are,
      )

  -- a segment
  pub segment-back : segment_of domains room (segment_bytes s ++ rest) ≡ ok (record { value = s; rest = rest })
  unfolding segment_of segment_bytes
  segment-back =
      let e = body-size in
      simp (chunk_back 2 (segment_length room) body' rest (omega arith) (omega (arith, g.most)) length-passes, body_back)

pub segments-back : (domains room : ℕ) (ss : List Segment) (rest : List ℕ) → All (GoodSegment domains) ss → length (all_words ss) ≤ room → All (λ s. Below (2 ^ 32) s.words) ss
    → segments_of (length ss) domains room (segments_bytes ss ++ rest) ≡ ok (record { value = ss; rest = rest })
unfolding segments_of joined
segments-back domains room [] rest g fits wide = refl
segments-back domains room (s ∷ ss) rest g fits wide =
    let l = length-append s.words (all_words ss) in
    let first = segment-back domains room s (segments_bytes ss ++ rest) g.0 (omega arith) wide.0 in
    let others = segments-back domains (room - length s.words) ss rest g.1 (omega arith) wide.1 in
    rw (append_assoc (segment_bytes s) (segments_bytes ss) rest, first, others)

module _ (segments : ℕ) (d : Domain) (rest : List ℕ) (g : GoodDomain segments d) (few : segments ≤ 16) where
  abbrev row : List ℕ
  row = d.stack ∷ d.rights

  row_back : domain_body segments row ≡ ok d
  unfolding domain_body
  row_back = simp (lt-ltb d.stack segments g.stack, g.rights)

  -- a domain
  pub domain-back : domain_of segments (domain_bytes d ++ rest) ≡ ok (record { value = d; rest = rest })
  unfolding domain_of domain_bytes
  domain-back =
      let c = g.count in
      simp (chunk_back 3 (exactly (1 + segments)) row rest (omega arith) (omega arith) (simp (eq-eqb (length row) (1 + segments) (omega arith))), row_back)

pub domains-back : (segments : ℕ) (ds : List Domain) (rest : List ℕ) → segments ≤ 16 → All (GoodDomain segments) ds
    → domains_of (length ds) segments (domains_bytes ds ++ rest) ≡ ok (record { value = ds; rest = rest })
unfolding domains_of joined
domains-back segments [] rest few g = refl
domains-back segments (d ∷ ds) rest few g =
    rw (append_assoc (domain_bytes d) (domains_bytes ds) rest, domain-back segments d (domains_bytes ds ++ rest) g.0 few, domains-back segments ds rest few g.1)

module _ (h : Head) (rest : List ℕ) (some-segments : 1 ≤ h.segments) (segments-most : h.segments ≤ 16) (some-domains : 1 ≤ h.domains) (domains-most : h.domains ≤ 8)
    (domain : h.start.domain < h.domains) (segment : h.start.segment < h.segments) (word : h.start.word ≤ 4095) where
  abbrev start-pointer : Pointer
  start-pointer = record { word = h.start.word; segment = h.start.segment; tag = false }

  pointer_back : pointer_of (start_word h.start) ≡ ok start-pointer
  pointer_back = unpack-packed start-pointer (omega arith) (omega arith)

  start_small : start_word h.start < 2 ^ 32
  unfolding pointer_word
  start_small = omega arith

  location-is : word_of (word_bytes (start_word h.start)) ≡ start_word h.start
  location-is = ap word_of (sym (append-nil (word_bytes (start_word h.start)))) ∙ word_back (start_word h.start) [] start_small

  fields_back : head_fields h.segments h.domains h.start.domain 0 (start_word h.start) ≡ ok h
  unfolding head_fields
  fields_back =
      simp (
        le-leb 1 h.segments some-segments,
        le-leb h.segments 16 segments-most,
        le-leb 1 h.domains some-domains,
        le-leb h.domains 8 domains-most,
        lt-ltb h.start.domain h.domains domain,
        pointer_back,
        lt-ltb h.start.segment h.segments segment,
      )

  abbrev head-body : List ℕ
  head-body = h.segments ∷ h.domains ∷ h.start.domain ∷ 0 ∷ word_bytes (start_word h.start)

  body_is : head_body head-body ≡ ok h
  unfolding head_body
  body_is = rw location-is fields_back

  head-length : length head-body ≡ 8
  unfolding word_bytes pair_bytes
  head-length = refl

  -- a head
  pub head-back : head_of (head_bytes h ++ rest) ≡ ok (record { value = h; rest = rest })
  unfolding head_of head_bytes
  head-back =
      simp (chunk_back 1 (exactly 8) head-body rest (omega arith) (omega (arith, head-length)) (simp (eq-eqb (length head-body) 8 head-length)), body_is)

-- the chunks of an image, and bytes after them
pub chunks-back : (i : Image) (rest : List ℕ) → Good i → All (λ s. Below (2 ^ 32) s.words) i.segments → chunks_of (bytes_of i ++ rest) ≡ ok (record { value = i; rest = rest })
unfolding chunks_of bytes_of
chunks-back i rest g wide =
    let h : Head = record { start = i.start; segments = length i.segments; domains = length i.domains } in
    let end = chunk_bytes 4 [] ++ rest in
    simp (
      append_assoc (head_bytes h) (segments_bytes i.segments ++ (domains_bytes i.domains ++ chunk_bytes 4 [])) rest,
      append_assoc (segments_bytes i.segments) (domains_bytes i.domains ++ chunk_bytes 4 []) rest,
      append_assoc (domains_bytes i.domains) (chunk_bytes 4 []) rest,
      head-back h (segments_bytes i.segments ++ (domains_bytes i.domains ++ end)) g.some-segments g.segments-most g.some-domains g.domains-most g.start-domain g.start-segment g.start_word,
      segments-back (length i.domains) 8192 i.segments (domains_bytes i.domains ++ end) g.segments g.words wide,
      domains-back (length i.segments) i.domains end g.segments-most g.domains,
      chunk_back 4 (exactly 0) [] rest (omega arith) (omega arith) refl,
    )

-- an image
pub image-back : (i : Image) → Good i → All (λ s. Below (2 ^ 32) s.words) i.segments → gates_pass i ≡ true → image_of (bytes_of i) ≡ ok i
unfolding image_of
image-back i g wide passes =
    ap image_of (sym (append-nil (bytes_of i))) ∙ simp (chunks-back i [] g wide, passes)
