-- `state::frames::in_use` meets its contract.
use native.Mathlib.Omega.{arith}
use mathlib.Core.Path.{refl}
use borrow.Author.Tests.{le-leb, lt-leb}
use Rattle.state.proofs.frames.in_use.Goals as goal

pub returns-then-depth-le8 : goal.returns-then-depth-le8
returns-then-depth-le8 c = simp (le-leb _ _ c.if-depth-le8.true) (refl, c.if-depth-le8.true)

pub returns-else-depth-le8 : goal.returns-else-depth-le8
returns-else-depth-le8 c = simp (lt-leb _ _ c.if-depth-le8.false) (refl, omega arith)
