-- `image_reader::judge::end` meets its contract.
use Prim.Native.Nat.{ℕ, ◌+◌, ◌≤◌}
use native.Mathlib.Omega.{arith}
use mathlib.Core.Path.{◌≡◌, sym, ◌∙◌}
use borrow.Author.Tests.{ne_eqb, eq-eqb}
use lib.ListN.{length, drop, length-drop}
use Rattle.words.specs.Answer.{ok}
use Rattle.image_format.specs.Chunk.{chunk_at, chunk_of, exactly}
use Rattle.image_format.proofs.Chunks.{exact-room}
use Rattle.image_reader.specs.Private.{end_of}
use Rattle.words.proofs.Results.{handed_on}
use Rattle.image_reader.proofs.judge.end.Goals as goal
use Rattle.image_reader.proofs.judge.end.Goals.{After-left-rest, In_ok-exact}

-- the chunk is passed
found : (c : In_ok-exact) → let a = c.args in chunk_of 4 (exactly 0) (drop a.at a.image.now) ≡ ok (chunk_at 0 (drop a.at a.image.now))
found c = sym c.exact.ensures ∙ simp c.in_ok-exact.was

-- what is left after it
rest : (c : After-left-rest) → let a = c.args in (4 ≤ c.left-rest.result) × (length (drop 4 (drop a.at a.image.now)) + 4 ≡ c.left-rest.result)
rest c =
    let a = c.args in
    let b = drop a.at a.image.now in
    let r = exact-room 4 0 b (found (goal.at.After-left-rest c).In_ok-exact) in
    (omega (arith, c.left-rest.ensures, r), omega (arith, length-drop 4 b, c.left-rest.ensures, r))

abbrev left_after : After-left-rest → ℕ
left_after c = let a = c.args in length (drop 4 (drop a.at a.image.now))

pub returns-then-not-pass : goal.returns-then-not-pass
unfolding end_of
returns-then-not-pass c = simp (found (goal.at.returns-then-not-pass c).In_ok-exact, c.if-not-pass.true)

pub returns-then-rest-ne4 : goal.returns-then-rest-ne4
unfolding end_of
returns-then-rest-ne4 c =
    simp (found (goal.at.returns-then-rest-ne4 c).In_ok-exact, c.if-not-pass.false, ne_eqb (left_after (goal.at.returns-then-rest-ne4 c).After-left-rest) 0 (λ z. c.if-rest-ne4.true (omega (arith, (rest (goal.at.returns-then-rest-ne4 c).After-left-rest).1, z))))

pub returns-in_err-exact : goal.returns-in_err-exact
unfolding end_of
returns-in_err-exact c = simp (← c.exact.ensures, c.in_err-exact.was, handed_on c.from_residual.result _ c.from_residual.ensures.1)

pub returns : goal.returns
unfolding end_of
returns c =
    simp (found (goal.at.returns c).In_ok-exact, c.if-not-pass.false, eq-eqb (left_after (goal.at.returns c).After-left-rest) 0 (omega (arith, (rest (goal.at.returns c).After-left-rest).1, c.if-rest-ne4.false)))
