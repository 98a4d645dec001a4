-- `processor::step` meets its contract.
use mathlib.Core.Path.{ap, ◌∙◌}
use Rattle.processor.specs.Calls.{run_call}
use Rattle.processor.specs.Steps.{as_step}
use Rattle.processor.proofs.Steps.{call-one}
use Rattle.processor.proofs.step.Goals as goal

pub returns : goal.returns
unfolding run_call
returns c =
    simp (c.pace_of.ensures.number, c.pace_of.ensures.halted) (ap as_step c.call-o.ensures ∙ call-one _ _)
