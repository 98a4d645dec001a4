-- `image_reader::segment::fields` meets its contract.
use borrow.Author.Tests.{lt-leb, le-leb, lt-ltb, le-ltb, ne_eqb, eq-eqb}
use Rattle.image_format.specs.Segment.{segment_fields}
use Rattle.image_reader.proofs.segment.fields.Goals as goal

pub returns-then-count-gates : goal.returns-then-count-gates
unfolding segment_fields
returns-then-count-gates c = simp (lt-leb _ _ c.if-count-gates.true)

pub returns-then-domains-domain : goal.returns-then-domains-domain
unfolding segment_fields
returns-then-domains-domain c = simp (le-leb _ _ c.if-count-gates.false, le-ltb _ _ c.if-domains-domain.true)

pub returns-then-unused-ne0 : goal.returns-then-unused-ne0
unfolding segment_fields
returns-then-unused-ne0 c =
    simp (le-leb _ _ c.if-count-gates.false, lt-ltb _ _ c.if-domains-domain.false, ne_eqb _ _ c.if-unused-ne0.true)

pub returns : goal.returns
unfolding segment_fields
returns c =
    simp (le-leb _ _ c.if-count-gates.false, lt-ltb _ _ c.if-domains-domain.false, eq-eqb _ _ c.if-unused-ne0.false)
