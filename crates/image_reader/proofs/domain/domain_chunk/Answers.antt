-- `image_reader::domain::domain_chunk` meets its contract.
use Prim.Native.Nat.{◌+◌, ◌≤◌}
use native.Mathlib.Omega.{arith}
use mathlib.Core.Path.{◌≡◌, sym, ◌∙◌}
use borrow.Author.Rules.{rules}
use borrow.Author.Tests.{lt-ltb, le-ltb}
use lib.ListN.{length, drop, length-drop}
use Rattle.words.specs.Answer.{ok}
use Rattle.image_format.specs.Chunk.{chunk_at, chunk_of, exactly}
use Rattle.image_format.specs.Domain.{domain_of}
use Rattle.image_format.proofs.Chunks.{exact-room}
use Rattle.image_format.proofs.Bodies.{domain-body}
use borrow.Author.Rules.{rules}
use Rattle.words.proofs.Results.{handed_on}
use Rattle.image_reader.proofs.domain.domain_chunk.Goals as goal
use Rattle.image_reader.proofs.domain.domain_chunk.Goals.{In_ok-exact}

-- the chunk is passed
found : (c : In_ok-exact) → let a = c.args in chunk_of 3 (exactly (1 + a.segments)) (drop a.at a.image.now) ≡ ok (chunk_at (1 + a.segments) (drop a.at a.image.now))
found c = sym c.exact.ensures ∙ simp c.in_ok-exact.was

room : (c : In_ok-exact) → let a = c.args in 4 + (1 + a.segments) ≤ length (drop a.at a.image.now)
room c = let a = c.args in exact-room 3 (1 + a.segments) (drop a.at a.image.now) (found c)

place : (c : In_ok-exact) → let a = c.args in a.at + 5 + a.segments ≤ length a.image.now
place c = let a = c.args in omega (arith, room c, length-drop a.at a.image.now)

pub overflow_add-stack : goal.overflow_add-stack
overflow_add-stack c = let h = place c in search rules

pub bounds-image-at : goal.bounds-image-at
bounds-image-at c = let h = place (goal.at.bounds-image-at c).In_ok-exact in search rules

pub returns-then-segments-stack : goal.returns-then-segments-stack
unfolding domain_of
returns-then-segments-stack c =
    let a = c.args in
    simp (found (goal.at.returns-then-segments-stack c).In_ok-exact, domain-body a.image.now a.at a.segments (room (goal.at.returns-then-segments-stack c).In_ok-exact), le-ltb _ _ c.if-segments-stack.true)

pub overflow_add-at : goal.overflow_add-at
overflow_add-at c = let h = place (goal.at.overflow_add-at c).In_ok-exact in search rules

pub are_rights-requires : goal.are_rights-requires
are_rights-requires c = let h = place (goal.at.are_rights-requires c).In_ok-exact in search rules

pub returns-then-not-are_rights : goal.returns-then-not-are_rights
unfolding domain_of
returns-then-not-are_rights c =
    let a = c.args in
    simp (found (goal.at.returns-then-not-are_rights c).In_ok-exact, domain-body a.image.now a.at a.segments (room (goal.at.returns-then-not-are_rights c).In_ok-exact), lt-ltb _ _ c.if-segments-stack.false, ← c.are_rights.ensures, c.if-not-are_rights.true)

pub returns-in_err-exact : goal.returns-in_err-exact
unfolding domain_of
returns-in_err-exact c = simp (← c.exact.ensures, c.in_err-exact.was, handed_on c.from_residual.result _ c.from_residual.ensures.1)

pub returns : goal.returns
unfolding domain_of
returns c =
    let a = c.args in
    simp (found (goal.at.returns c).In_ok-exact, domain-body a.image.now a.at a.segments (room (goal.at.returns c).In_ok-exact), lt-ltb _ _ c.if-segments-stack.false, ← c.are_rights.ensures, c.if-not-are_rights.false)
