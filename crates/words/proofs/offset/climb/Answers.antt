-- `words::offset::climb` meets its contract.
use Rattle.std.proofs.Common.{le-leb}
use borrow.Author.Tests.{lt-leb}
use Rattle.words.specs.Offset.{displaced_of}
use Rattle.words.proofs.offset.climb.Goals as goal

pub returns-then-sum-gt4095 : goal.returns-then-sum-gt4095
unfolding displaced_of
returns-then-sum-gt4095 c = simp (lt-leb _ _ c.if-sum-gt4095.true)

pub returns : goal.returns
unfolding displaced_of
returns c = simp (le-leb _ _ c.if-sum-gt4095.false)
