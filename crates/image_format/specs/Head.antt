-- Kind 1, 8 bytes: segments, domains, start domain, 0, start location as an untagged pointer word.
use Rattle.std.specs.Prelude.{ℕ, false, not, List, ◌∷◌, eqb, leb, ltb, get_or, drop}
use Rattle.words.specs.Answer.{Answer, refuse, ok, ◌>>=◌, ◌>>◌, require}
use Rattle.words.specs.PointerWord.{pointer_of, pointer_word}
use Rattle.words.specs.declared.pointer.Pointer.{Pointer}
use Rattle.state.specs.declared.record.Start.{Start}
use Rattle.words.specs.Numbers.{bad_field}
use Rattle.image_format.specs.Bytes.{word_of, word_bytes}
use Rattle.image_format.specs.Chunk.{Read, chunk_of, chunk_bytes, exactly}
use Rattle.image_format.specs.declared.Head.{Head}

-- an untagged pointer into a segment that exists
abbrev pub located : ℕ → Answer Pointer → Answer Pointer
located segments (refuse n) = refuse bad_field
located segments (ok p) = require (not p.tag) bad_field >> require (ltb p.segment segments) bad_field >> ok p

-- the head in five fields
unfoldable pub head_fields : ℕ → ℕ → ℕ → ℕ → ℕ → Answer Head
head_fields segments domains domain unused location =
    require (leb 1 segments) bad_field >>
    require (leb segments 16) bad_field >>
    require (leb 1 domains) bad_field >>
    require (leb domains 8) bad_field >>
    require (ltb domain domains) bad_field >>
    require (eqb unused 0) bad_field >>
    (located segments (pointer_of location) >>= (λ p.
    ok (record { start = record { word = p.word; segment = p.segment; domain = domain }; segments = segments; domains = domains })))

-- the head in a body
unfoldable pub head_body : List ℕ → Answer Head
head_body body = head_fields (get_or body 0 0) (get_or body 1 0) (get_or body 2 0) (get_or body 3 0) (word_of (drop 4 body))

-- the head in a chunk's body, and the bytes after the chunk
abbrev pub head_read : Read (List ℕ) → Answer (Read Head)
head_read c = head_body c.value >>= (λ h. ok (record { value = h; rest = c.rest }))

-- the head at the front of some bytes
unfoldable pub head_of : List ℕ → Answer (Read Head)
head_of bytes = chunk_of 1 (exactly 8) bytes >>= head_read

-- a start as a pointer word
abbrev pub start_word : Start → ℕ
start_word s = pointer_word (record { word = s.word; segment = s.segment; tag = false })

-- the bytes of a head
unfoldable pub head_bytes : Head → List ℕ
head_bytes h = chunk_bytes 1 (h.segments ∷ h.domains ∷ h.start.domain ∷ 0 ∷ word_bytes (start_word h.start))
