-- `state::rows::of_segment` meets its contract.
use borrow.Author.Tests.{lt-ltb, le-ltb}
use Rattle.state.proofs.rows.of_segment.Goals as goal

pub returns-then-segment-ge16 : goal.returns-then-segment-ge16
returns-then-segment-ge16 c = simp (le-ltb _ _ c.if-segment-ge16.true)

pub returns : goal.returns
returns c = simp (lt-ltb _ _ c.if-segment-ge16.false)
