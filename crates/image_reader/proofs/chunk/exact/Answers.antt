-- `image_reader::chunk::exact` meets its contract.
use mathlib.Core.Path.{refl}
use borrow.Author.Tests.{lt-leb, le-leb, ne_eqb, eq-eqb}
use Rattle.image_format.specs.Chunk.{chunk_of}
use Rattle.words.proofs.Results.{handed_on}
use Rattle.image_reader.proofs.chunk.exact.Goals as goal

pub returns-then-found-length : goal.returns-then-found-length
unfolding chunk_of
returns-then-found-length c =
    simp (← c.header.ensures, c.in_ok-found.was, ne_eqb _ _ c.if-found-length.true)

pub returns-then-left-length : goal.returns-then-left-length
unfolding chunk_of
returns-then-left-length c =
    let n = c.args.length in
    simp (← c.header.ensures, c.in_ok-found.was, c.if-found-length.false, eq-eqb n n refl, ← c.left.ensures, lt-leb _ _ c.if-left-length.true)

pub returns-in_err-found : goal.returns-in_err-found
unfolding chunk_of
returns-in_err-found c =
    simp (handed_on c.from_residual.result _ c.from_residual.ensures.1, ← c.header.ensures, c.in_err-found.was)

pub returns : goal.returns
unfolding chunk_of
returns c =
    let n = c.args.length in
    simp (← c.header.ensures, c.in_ok-found.was, c.if-found-length.false, eq-eqb n n refl, ← c.left.ensures, le-leb _ _ c.if-left-length.false)
