-- `arguments::argument` meets its contract.
use mathlib.Core.Path.{ap, ◌∙◌}
use Rattle.words.specs.Refusal.{answer_of}
use Rattle.words.proofs.Results.{handed_on}
use Rattle.arguments.specs.ArgumentList.{list_pointer, argument_of}
use Rattle.arguments.proofs.argument.Goals as goal

pub returns-in_err-w : goal.returns-in_err-w
unfolding list_pointer argument_of
returns-in_err-w c = ap answer_of (handed_on c.from_residual.result _ c.from_residual.ensures.1) ∙ simp (← c.in_err-w.ensures)

pub returns-in_err-p : goal.returns-in_err-p
unfolding list_pointer argument_of
returns-in_err-p c = ap answer_of (handed_on c.from_residual-in_err-p.result _ c.from_residual-in_err-p.ensures.1) ∙ simp (← c.in_ok-w.ensures, ← c.in_err-p.ensures)

pub returns-in_err-v : goal.returns-in_err-v
unfolding list_pointer argument_of
returns-in_err-v c = ap answer_of (handed_on c.from_residual-in_err-v.result _ c.from_residual-in_err-v.ensures.1) ∙ simp (← c.in_ok-w.ensures, ← c.in_ok-p.ensures, ← c.in_err-v.ensures)

pub returns : goal.returns
unfolding list_pointer argument_of
returns c = simp (← c.in_ok-w.ensures, ← c.in_ok-p.ensures, ← c.in_ok-v.ensures) c.capability.ensures
