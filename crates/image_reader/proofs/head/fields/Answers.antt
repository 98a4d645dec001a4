-- `image_reader::head::fields` meets its contract.
use borrow.Author.Tests.{lt-leb, le-leb, lt-ltb, le-ltb, ne_eqb, eq-eqb}
use Rattle.image_format.specs.Head.{head_fields}
use Rattle.words.proofs.Results.{handed_on}
use Rattle.image_reader.proofs.head.fields.Goals as goal

pub returns-then-segments-lt1 : goal.returns-then-segments-lt1
unfolding head_fields
returns-then-segments-lt1 c = simp (lt-leb _ _ c.if-segments-lt1.true)

pub returns-then-segments-gt16 : goal.returns-then-segments-gt16
unfolding head_fields
returns-then-segments-gt16 c = simp (le-leb _ _ c.if-segments-lt1.false, lt-leb _ _ c.if-segments-gt16.true)

pub returns-then-domains-lt1 : goal.returns-then-domains-lt1
unfolding head_fields
returns-then-domains-lt1 c =
    simp (le-leb _ _ c.if-segments-lt1.false, le-leb _ _ c.if-segments-gt16.false, lt-leb _ _ c.if-domains-lt1.true)

pub returns-then-domains-gt8 : goal.returns-then-domains-gt8
unfolding head_fields
returns-then-domains-gt8 c =
    simp (le-leb _ _ c.if-segments-lt1.false, le-leb _ _ c.if-segments-gt16.false, le-leb _ _ c.if-domains-lt1.false, lt-leb _ _ c.if-domains-gt8.true)

pub returns-then-domains-domain : goal.returns-then-domains-domain
unfolding head_fields
returns-then-domains-domain c =
    simp (le-leb _ _ c.if-segments-lt1.false, le-leb _ _ c.if-segments-gt16.false, le-leb _ _ c.if-domains-lt1.false, le-leb _ _ c.if-domains-gt8.false, le-ltb _ _ c.if-domains-domain.true)

pub returns-then-unused-ne0 : goal.returns-then-unused-ne0
unfolding head_fields
returns-then-unused-ne0 c =
    simp (le-leb _ _ c.if-segments-lt1.false, le-leb _ _ c.if-segments-gt16.false, le-leb _ _ c.if-domains-lt1.false, le-leb _ _ c.if-domains-gt8.false, lt-ltb _ _ c.if-domains-domain.false, ne_eqb _ _ c.if-unused-ne0.true)

pub returns-in_err-p : goal.returns-in_err-p
unfolding head_fields
returns-in_err-p c =
    simp (le-leb _ _ c.if-segments-lt1.false, le-leb _ _ c.if-segments-gt16.false, le-leb _ _ c.if-domains-lt1.false, le-leb _ _ c.if-domains-gt8.false, lt-ltb _ _ c.if-domains-domain.false, eq-eqb _ _ c.if-unused-ne0.false, ← c.start_pointer.ensures, c.in_err-p.was, handed_on c.from_residual.result _ c.from_residual.ensures.1)

pub returns : goal.returns
unfolding head_fields
returns c =
    simp (le-leb _ _ c.if-segments-lt1.false, le-leb _ _ c.if-segments-gt16.false, le-leb _ _ c.if-domains-lt1.false, le-leb _ _ c.if-domains-gt8.false, lt-ltb _ _ c.if-domains-domain.false, eq-eqb _ _ c.if-unused-ne0.false, ← c.start_pointer.ensures, c.in_ok-p.was)
