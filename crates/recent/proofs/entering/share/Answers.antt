-- `recent::entering::share` meets its contract.
use Rattle.std.proofs.Common.{rules, tests}
use Rattle.recent.specs.Entering.{shares}
use Rattle.recent.proofs.entering.share.Goals as goal

pub returns-then-from : goal.returns-then-from
unfolding shares
returns-then-from c = search (rules, tests)

pub returns-else-from : goal.returns-else-from
unfolding shares
returns-else-from c = search (rules, tests)
