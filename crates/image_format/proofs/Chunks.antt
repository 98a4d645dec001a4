-- Chunks that are passed.
use Prim.Native.Nat.{ℕ, ◌+◌, ◌≤◌}
use mathlib.Core.Path.{◌≡◌, sym}
use mathlib.Core.List.{List}
use borrow.Author.Tests.{leb-true, eqb-true}
use lib.Dec.{leb, eqb}
use lib.ListN.{length, drop}
use Rattle.words.specs.Answer.{Answer, ok, ◌>>◌, require}
use Rattle.image_format.specs.Bytes.{pair_of}
use Rattle.image_format.specs.Chunk.{Read, chunk_at, header_of, chunk_of, exactly}
use Rattle.image_format.proofs.Answers.{passed, test, after, bound, the_value}

pub record Chunked (kind : ℕ) (allowed : ℕ → Answer (Unit {0})) (bytes : List ℕ) (c : Read (List ℕ)) : Type 0 where
  pub kind-is : pair_of (drop 2 bytes) ≡ kind
  pub allowed-is : allowed (pair_of bytes) ≡ ok tt
  pub room : 4 + pair_of bytes ≤ length bytes
  pub is : chunk_at (pair_of bytes) bytes ≡ c

pub chunk-facts : (kind : ℕ) (allowed : ℕ → Answer (Unit {0})) (bytes : List ℕ) {c : Read (List ℕ)} → chunk_of kind allowed bytes ≡ ok c → Chunked kind allowed bytes c
unfolding header_of chunk_of
chunk-facts kind allowed bytes e =
    let b = bound (header_of kind bytes) _ e in
    let h = after (require (leb 4 (length bytes)) 1 >> require (eqb (pair_of (drop 2 bytes)) kind) 2) _ b.is in
    let p = passed (leb 4 (length bytes)) 1 _ h.0 in
    let n : b.value ≡ pair_of bytes = sym (the_value h.1) in
    let a = after (allowed b.value) _ b.next in
    let r = passed (leb (4 + b.value) (length bytes)) 1 _ a.1 in
    record {
      kind-is = eqb-true _ _ (test _ 2 p.1);
      allowed-is = rw (← n) a.0;
      room = rw (← n) (leb-true _ _ r.0);
      is = rw (← n) (the_value r.1);
    }

pub exact-size : (kind n : ℕ) (bytes : List ℕ) {c : Read (List ℕ)} → Chunked kind (exactly n) bytes c → pair_of bytes ≡ n
exact-size kind n bytes f = eqb-true _ _ (test (eqb (pair_of bytes) n) 3 f.allowed-is)

pub exact-room : (kind n : ℕ) (bytes : List ℕ) {c : Read (List ℕ)} → chunk_of kind (exactly n) bytes ≡ ok c → 4 + n ≤ length bytes
exact-room kind n bytes e = let f = chunk-facts kind (exactly n) bytes e in rw (← exact-size kind n bytes f) f.room
