-- `runs::call` meets its contract.
use mathlib.Core.Path.{refl, sym}
use borrow.Author.Tests.{eq-eqb}
use Rattle.words.proofs.Results.{number-ne_0}
use Rattle.runs.specs.Run.{called_of}
use Rattle.runs.proofs.Judging.{judged-depth}
use Rattle.runs.proofs.call.Goals as goal

pub returns-in-Err : goal.returns-in-Err
unfolding called_of
returns-in-Err c = simp (← c.in-Err.ensures, number-ne_0 c.in-Err.refusal) refl

pub run_on-requires : goal.run_on-requires
run_on-requires c = judged-depth _ _ (sym c.in-Ok.ensures)

pub returns-in-Ok : goal.returns-in-Ok
unfolding called_of
returns-in-Ok c = simp (eq-eqb _ _ (sym c.in-Ok.ensures)) c.run_on.ensures
