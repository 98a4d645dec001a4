-- `processor::run` meets its contract.
use Rattle.processor.specs.Calls.{run_call}
use Rattle.processor.proofs.run.Goals as goal

pub returns : goal.returns
unfolding run_call
returns c = c.call.ensures
