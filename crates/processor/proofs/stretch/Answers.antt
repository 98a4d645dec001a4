-- `processor::stretch` meets its contract.
use Rattle.processor.specs.Calls.{stretch_call}
use Rattle.processor.proofs.stretch.Goals as goal

pub returns : goal.returns
unfolding stretch_call
returns c = c.call.ensures
