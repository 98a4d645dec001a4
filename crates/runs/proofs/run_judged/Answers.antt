-- `runs::run_judged` meets its contract.
use mathlib.Core.Path.{refl}
use borrow.Author.Tests.{lt-leb, le-leb}
use Rattle.runs.specs.Run.{judged_run}
use Rattle.runs.proofs.run_judged.Goals as goal

pub returns-then-m-gt8 : goal.returns-then-m-gt8
unfolding judged_run
returns-then-m-gt8 c = simp (lt-leb _ _ c.if-m-gt8.true) refl

pub returns : goal.returns
unfolding judged_run
returns c = simp (le-leb _ _ c.if-m-gt8.false) c.run_on.ensures
