-- `state::frames::live_frame` meets its contract.
use native.Mathlib.Omega.{arith}
use Rattle.state.proofs.frames.live_frame.Goals as goal

pub returns-then-n-eq0 : goal.returns-then-n-eq0
returns-then-n-eq0 c = rw (← c.before.before.in_use-n.ensures.0, c.before.if-n-eq0.true)

pub bounds-frames-k : goal.bounds-frames-k
bounds-frames-k c = omega (arith, c.before.in_use-n.ensures.1)

pub returns : goal.returns
returns c = rw (← c.before.before.in_use-n.ensures.0)
