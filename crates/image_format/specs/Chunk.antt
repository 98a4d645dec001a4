-- Chunks: body length (2 bytes), kind (2 bytes), body.
use Rattle.std.specs.Prelude.{ℕ, ◌+◌, List, ◌++◌, eqb, leb, length, take, drop}
use Rattle.words.specs.Answer.{Answer, ok, ◌>>=◌, ◌>>◌, require}
use Rattle.words.specs.Numbers.{cut_short, wrong_kind, wrong_length}
use Rattle.image_format.specs.Bytes.{pair_of, pair_bytes}

-- what was read from the front of some bytes, and the bytes after it
pub record Read (A : Type 0) : Type 0 where
  pub value : A
  pub rest : List ℕ

-- the body of n bytes of a chunk
abbrev pub chunk_at : ℕ → List ℕ → Read (List ℕ)
chunk_at n bytes = record { value = take n (drop 4 bytes); rest = drop (4 + n) bytes }

-- the body length in the header of a chunk of the kind that is due
unfoldable pub header_of : ℕ → List ℕ → Answer ℕ
header_of kind bytes =
    require (leb 4 (length bytes)) cut_short >>
    require (eqb (pair_of (drop 2 bytes)) kind) wrong_kind >>
    ok (pair_of bytes)

-- the body of a chunk of the kind that is due, of a length that is allowed
unfoldable pub chunk_of : ℕ → (ℕ → Answer (Unit {0})) → List ℕ → Answer (Read (List ℕ))
chunk_of kind allowed bytes =
    header_of kind bytes >>= (λ n. allowed n >>
    (require (leb (4 + n) (length bytes)) cut_short >>
    ok (chunk_at n bytes)))

-- the one length that is allowed
abbrev pub exactly : ℕ → ℕ → Answer (Unit {0})
exactly n found = require (eqb found n) wrong_length

-- the bytes of a chunk
unfoldable pub chunk_bytes : ℕ → List ℕ → List ℕ
chunk_bytes kind body = pair_bytes (length body) ++ (pair_bytes kind ++ body)
