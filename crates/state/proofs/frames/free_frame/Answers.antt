-- `state::frames::free_frame` meets its contract.
use mathlib.Core.Path.{refl}
use Rattle.state.proofs.frames.free_frame.Goals as goal

pub returns : goal.returns
returns c = refl
