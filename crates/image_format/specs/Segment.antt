-- Kind 2, one per segment: gate count (2 bytes), gate domain, 0, then its words.
use Rattle.std.specs.Prelude.{ℕ, zero, suc, ◌-◌, ◌/◌, ◌%◌, List, [], ◌∷◌, ◌++◌, map, eqb, leb, ltb, length, get_or, drop}
use Rattle.words.specs.Answer.{Answer, ok, ◌>>=◌, ◌>>◌, require}
use Rattle.words.specs.Numbers.{wrong_length, too_many_words, bad_field}
use Rattle.image_format.specs.Bytes.{pair_of, pair_bytes, words_of, words_bytes, joined}
use Rattle.image_format.specs.Chunk.{Read, chunk_of, chunk_bytes}

-- a segment of an image
pub record Segment : Type 0 where
  pub gates : ℕ
  pub domain : ℕ
  pub words : List ℕ

-- the words in a body of n bytes
abbrev pub word_count : ℕ → ℕ
word_count n = (n - 4) / 4

-- 1-4,096 words, and no more than there is room for
unfoldable pub segment_length : ℕ → ℕ → Answer (Unit {0})
segment_length room n =
    require (leb 8 n) wrong_length >>
    require (leb n 16388) wrong_length >>
    require (eqb (n % 4) 0) wrong_length >>
    require (leb (word_count n) room) too_many_words

-- at most as many gates as words, into a domain that exists
unfoldable pub segment_fields : ℕ → ℕ → ℕ → ℕ → ℕ → Answer (Unit {0})
segment_fields domains count gates domain unused =
    require (leb gates count) bad_field >>
    require (ltb domain domains) bad_field >>
    require (eqb unused 0) bad_field

-- the segment in a body
unfoldable pub segment_body : ℕ → List ℕ → Answer Segment
segment_body domains body =
    segment_fields domains (word_count (length body)) (pair_of body) (get_or body 2 0) (get_or body 3 0) >>
    ok (record { gates = pair_of body; domain = get_or body 2 0; words = words_of (word_count (length body)) (drop 4 body) })

-- the segment in a chunk's body, and the bytes after the chunk
abbrev pub segment_read : ℕ → Read (List ℕ) → Answer (Read Segment)
segment_read domains c = segment_body domains c.value >>= (λ s. ok (record { value = s; rest = c.rest }))

-- the segment at the front of some bytes
unfoldable pub segment_of : ℕ → ℕ → List ℕ → Answer (Read Segment)
segment_of domains room bytes = chunk_of 2 (segment_length room) bytes >>= segment_read domains

-- n segments, with room for so many words
unfoldable pub segments_of : ℕ → ℕ → ℕ → List ℕ → Answer (Read (List Segment))
segments_of zero domains room bytes = ok (record { value = []; rest = bytes })
segments_of (suc n) domains room bytes =
    segment_of domains room bytes >>= (λ s. segments_of n domains (room - length s.value.words) s.rest >>= (λ r.
    ok (record { value = s.value ∷ r.value; rest = r.rest })))

-- the bytes of a segment
unfoldable pub segment_bytes : Segment → List ℕ
segment_bytes s = chunk_bytes 2 (pair_bytes s.gates ++ (s.domain ∷ 0 ∷ words_bytes s.words))

-- the bytes of segments, one after the other
abbrev pub segments_bytes : List Segment → List ℕ
segments_bytes = joined segment_bytes

-- the words of all segments, one after the other
abbrev pub all_words : List Segment → List ℕ
all_words = joined (λ s. s.words)

-- the lengths, gate counts and gate domains of segments, in order
abbrev pub lengths_of : List Segment → List ℕ
lengths_of = map (λ s. length s.words)

abbrev pub gates_of : List Segment → List ℕ
gates_of = map (λ s. s.gates)

abbrev pub gatedomains_of : List Segment → List ℕ
gatedomains_of = map (λ s. s.domain)
