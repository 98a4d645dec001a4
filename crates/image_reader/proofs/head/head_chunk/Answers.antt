-- `image_reader::head::head_chunk` meets its contract.
use Prim.Native.Nat.{◌≤◌}
use native.Mathlib.Omega.{arith}
use mathlib.Core.Path.{◌≡◌, sym, ◌∙◌}
use lib.ListN.{length}
use Rattle.words.specs.Answer.{ok}
use Rattle.image_format.specs.Chunk.{chunk_at, chunk_of, exactly}
use Rattle.image_format.specs.Head.{head_of}
use Rattle.image_format.proofs.Chunks.{exact-room}
use Rattle.image_format.proofs.Bodies.{head-body}
use Rattle.words.proofs.Results.{handed_on}
use Rattle.image_reader.proofs.head.head_chunk.Goals as goal
use Rattle.image_reader.proofs.head.head_chunk.Goals.{In_ok-exact}

-- the chunk is passed
found : (c : In_ok-exact) → let a = c.args in chunk_of 1 (exactly 8) a.image.now ≡ ok (chunk_at 8 a.image.now)
found c = sym c.exact.ensures ∙ simp c.in_ok-exact.was

room : (c : In_ok-exact) → let a = c.args in 12 ≤ length a.image.now
room c = exact-room 1 8 c.args.image.now (found c)

pub bounds-image-4 : goal.bounds-image-4
bounds-image-4 c = let h = room (goal.at.bounds-image-4 c).In_ok-exact in omega arith

pub bounds-image-5 : goal.bounds-image-5
bounds-image-5 c = let h = room (goal.at.bounds-image-5 c).In_ok-exact in omega arith

pub bounds-image-6 : goal.bounds-image-6
bounds-image-6 c = let h = room (goal.at.bounds-image-6 c).In_ok-exact in omega arith

pub bounds-image-7 : goal.bounds-image-7
bounds-image-7 c = let h = room (goal.at.bounds-image-7 c).In_ok-exact in omega arith

pub word-requires : goal.word-requires
word-requires c = let h = room (goal.at.word-requires c).In_ok-exact in omega arith

pub returns-in_err-exact : goal.returns-in_err-exact
unfolding head_of
returns-in_err-exact c = simp (← c.exact.ensures, c.in_err-exact.was, handed_on c.from_residual.result _ c.from_residual.ensures.1)

pub returns : goal.returns
unfolding head_of
returns c =
    simp (found (goal.at.returns c).In_ok-exact, head-body c.args.image.now, ← c.word.ensures, ← c.fields.ensures)
