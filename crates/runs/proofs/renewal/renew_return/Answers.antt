-- `runs::renewal::renew_return` meets its contract.
use mathlib.Core.Path.{ap, ◌∙◌}
use Rattle.recent.specs.Registers.{cleared}
use Rattle.crossings.specs.Crossing.{left_recent}
use Rattle.runs.proofs.renewal.renew_return.Goals as goal

pub returns : goal.returns
unfolding left_recent
returns c = c.clear.ensures ∙ ap (cleared _) c.renew.ensures
