-- `capabilities::covers` meets its contract.
use Rattle.std.proofs.Common.{rules, tests}
use Rattle.capabilities.specs.Search.{covers_of}
use Rattle.capabilities.proofs.covers.Goals as goal

pub returns-then-c-segment : goal.returns-then-c-segment
unfolding covers_of
returns-then-c-segment c = search (rules, tests)

pub returns-else-c-segment : goal.returns-else-c-segment
unfolding covers_of
returns-else-c-segment c = search (rules, tests)
