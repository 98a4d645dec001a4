-- `arguments::capability` meets its contract.
use mathlib.Core.Path.{ap, ◌∙◌}
use Rattle.words.specs.Refusal.{answer_of}
use Rattle.words.proofs.Results.{handed_on}
use Rattle.arguments.specs.ArgumentList.{capability_of}
use Rattle.arguments.proofs.capability.Goals as goal

pub returns-in_err-m : goal.returns-in_err-m
unfolding capability_of
returns-in_err-m c = ap answer_of (handed_on c.from_residual.result _ c.from_residual.ensures.1) ∙ simp (← c.in_err-m.ensures)

pub returns-in_err-source : goal.returns-in_err-source
unfolding capability_of
returns-in_err-source c = ap answer_of (handed_on c.from_residual-in_err-source.result _ c.from_residual-in_err-source.ensures.1) ∙ simp (← c.in_ok-m.ensures, ← c.in_err-source.ensures)

pub returns : goal.returns
unfolding capability_of
returns c = simp (← c.in_ok-m.ensures, ← c.in_ok-source.ensures, c.capability_on.ensures)
