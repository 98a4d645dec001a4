-- `image_reader::segment::segment_chunk` meets its contract.
use native.Mathlib.Omega.{arith}
use mathlib.Core.Path.{sym, ◌∙◌}
use borrow.Author.Tests.{lt-leb, le-leb}
use lib.ListN.{length-drop}
use Rattle.image_format.specs.Chunk.{chunk_of}
use Rattle.image_format.specs.Segment.{segment_of}
use Rattle.image_format.proofs.Segments.{length_some}
use Rattle.words.proofs.Results.{handed_on}
use Rattle.image_reader.proofs.segment.segment_chunk.Goals as goal

pub returns-then-left-n : goal.returns-then-left-n
unfolding segment_of chunk_of
returns-then-left-n c =
    simp (← c.header.ensures, c.in_ok-n.was, ← c.body_length.ensures, c.in_ok-body_length.was, ← c.left.ensures, lt-leb _ _ c.if-left-n.true)

pub body-requires : goal.body-requires
body-requires c =
    let a = c.args in
    (length_some a.room _ (sym c.body_length.ensures ∙ simp c.in_ok-body_length.was), omega (arith, c.left.ensures, length-drop a.at a.image.now, c.if-left-n.false))

pub returns-in_err-n : goal.returns-in_err-n
unfolding segment_of chunk_of
returns-in_err-n c =
    simp (← c.header.ensures, c.in_err-n.was, handed_on c.from_residual.result _ c.from_residual.ensures.1)

pub returns-in_err-body_length : goal.returns-in_err-body_length
unfolding segment_of chunk_of
returns-in_err-body_length c =
    simp (← c.header.ensures, c.in_ok-n.was, ← c.body_length.ensures, c.in_err-body_length.was, handed_on c.from_residual-in_err-body_length.result _ c.from_residual-in_err-body_length.ensures.1)

pub returns : goal.returns
unfolding segment_of chunk_of
returns c =
    simp (← c.header.ensures, c.in_ok-n.was, ← c.body_length.ensures, c.in_ok-body_length.was, ← c.left.ensures, le-leb _ _ c.if-left-n.false) c.body.ensures
