-- `recent::entering::is_yielding` meets its contract.
use Rattle.std.proofs.Common.{rules, tests}
use Rattle.recent.specs.Entering.{yields}
use Rattle.recent.proofs.entering.is_yielding.Goals as goal

pub returns-then-earlier-c : goal.returns-then-earlier-c
unfolding yields
returns-then-earlier-c c = search (rules, tests)

pub returns-else-earlier-c : goal.returns-else-earlier-c
unfolding yields
returns-else-earlier-c c = search (rules, tests)
