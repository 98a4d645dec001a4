-- `crossing_log::judge_log` meets its contract.
use mathlib.Core.Path.{sym, ap}
use borrow.Author.Tests.{eq-eqb, lt-leb, le-leb}
use Rattle.words.specs.Refusal.{status}
use Rattle.words.proofs.Results.{number-ne_0, handed_on}
use Rattle.crossing_log.specs.Log.{log_judged}
use Rattle.crossing_log.proofs.judge_log.Goals as goal

pub returns-in_err-judge : goal.returns-in_err-judge
unfolding log_judged
returns-in_err-judge c =
    simp (← c.in_err-judge.ensures, number-ne_0 c.in_err-judge.field-0.0) (ap status (handed_on c.from_residual.result _ c.from_residual.ensures.1))

pub returns-then-log-lt6000 : goal.returns-then-log-lt6000
unfolding log_judged
returns-then-log-lt6000 c = simp (eq-eqb _ _ (sym c.in_ok-judge.ensures), lt-leb _ _ c.if-log-lt6000.true)

pub returns : goal.returns
unfolding log_judged
returns c = simp (eq-eqb _ _ (sym c.in_ok-judge.ensures), le-leb _ _ c.if-log-lt6000.false)
