-- Kind 3, one per domain: stack segment, then a rights byte (0-15) per segment.
use Rattle.std.specs.Prelude.{ℕ, zero, suc, ◌+◌, Bool, true, ◌&&◌, List, [], ◌∷◌, map, leb, ltb, get_or, drop}
use Rattle.words.specs.Answer.{Answer, ok, ◌>>=◌, ◌>>◌, require}
use Rattle.words.specs.Numbers.{bad_field}
use Rattle.image_format.specs.Bytes.{joined}
use Rattle.image_format.specs.Chunk.{Read, chunk_of, chunk_bytes, exactly}

-- a domain of an image
pub record Domain : Type 0 where
  pub stack : ℕ
  pub rights : List ℕ

-- each of the bytes is 0-15
unfoldable pub all_rights : List ℕ → Bool
all_rights [] = true
all_rights (r ∷ rs) = leb r 15 && all_rights rs

-- the domain in a body
unfoldable pub domain_body : ℕ → List ℕ → Answer Domain
domain_body segments body =
    require (ltb (get_or body 0 0) segments) bad_field >>
    require (all_rights (drop 1 body)) bad_field >>
    ok (record { stack = get_or body 0 0; rights = drop 1 body })

-- the domain in a chunk's body, and the bytes after the chunk
abbrev pub domain_read : ℕ → Read (List ℕ) → Answer (Read Domain)
domain_read segments c = domain_body segments c.value >>= (λ d. ok (record { value = d; rest = c.rest }))

-- the domain at the front of some bytes
unfoldable pub domain_of : ℕ → List ℕ → Answer (Read Domain)
domain_of segments bytes = chunk_of 3 (exactly (1 + segments)) bytes >>= domain_read segments

-- n domains
unfoldable pub domains_of : ℕ → ℕ → List ℕ → Answer (Read (List Domain))
domains_of zero segments bytes = ok (record { value = []; rest = bytes })
domains_of (suc n) segments bytes =
    domain_of segments bytes >>= (λ d. domains_of n segments d.rest >>= (λ r.
    ok (record { value = d.value ∷ r.value; rest = r.rest })))

-- the bytes of a domain
unfoldable pub domain_bytes : Domain → List ℕ
domain_bytes d = chunk_bytes 3 (d.stack ∷ d.rights)

-- the bytes of domains, one after the other
abbrev pub domains_bytes : List Domain → List ℕ
domains_bytes = joined domain_bytes

-- the stack segments of domains, in order
abbrev pub stacks_of : List Domain → List ℕ
stacks_of = map (λ d. d.stack)
