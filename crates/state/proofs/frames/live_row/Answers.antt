-- `state::frames::live_row` meets its contract.
use native.Mathlib.Omega.{arith}
use mathlib.Core.Path.{refl}
use Rattle.state.proofs.frames.live_row.Goals as goal

pub returns-then-n-eq0 : goal.returns-then-n-eq0
returns-then-n-eq0 c = (rw (← c.before.in_use-n.ensures.0, c.if-n-eq0.true) refl, omega (arith))

pub returns : goal.returns
returns c = (rw (← c.before.in_use-n.ensures.0) refl, omega (arith, c.before.in_use-n.ensures.1))
