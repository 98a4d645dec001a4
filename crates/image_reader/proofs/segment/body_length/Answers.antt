-- `image_reader::segment::body_length` meets its contract.
use borrow.Author.Tests.{lt-leb, le-leb, ne_eqb, eq-eqb}
use Rattle.image_format.specs.Segment.{segment_length}
use Rattle.image_reader.proofs.segment.body_length.Goals as goal

pub returns-then-n-lt8 : goal.returns-then-n-lt8
unfolding segment_length
returns-then-n-lt8 c = simp (lt-leb _ _ c.if-n-lt8.true)

pub returns-then-n-gt16388 : goal.returns-then-n-gt16388
unfolding segment_length
returns-then-n-gt16388 c = simp (le-leb _ _ c.if-n-lt8.false, lt-leb _ _ c.if-n-gt16388.true)

pub returns-then-n-ne0 : goal.returns-then-n-ne0
unfolding segment_length
returns-then-n-ne0 c =
    simp (le-leb _ _ c.if-n-lt8.false, le-leb _ _ c.if-n-gt16388.false, ne_eqb _ _ c.if-n-ne0.true)

pub returns-then-room-n : goal.returns-then-room-n
unfolding segment_length
returns-then-room-n c =
    simp (le-leb _ _ c.if-n-lt8.false, le-leb _ _ c.if-n-gt16388.false, eq-eqb _ _ c.if-n-ne0.false, lt-leb _ _ c.if-room-n.true)

pub returns : goal.returns
unfolding segment_length
returns c =
    simp (le-leb _ _ c.if-n-lt8.false, le-leb _ _ c.if-n-gt16388.false, eq-eqb _ _ c.if-n-ne0.false, le-leb _ _ c.if-room-n.false)
