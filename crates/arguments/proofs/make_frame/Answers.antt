-- `arguments::make_frame` meets its contract.
use mathlib.Core.Path.{ap, ◌∙◌}
use Rattle.words.specs.Refusal.{answer_of}
use Rattle.words.proofs.Results.{handed_on}
use borrow.Author.Tests.{le-leb, lt-leb}
use Rattle.arguments.specs.ArgumentList.{frame_of}
use Rattle.arguments.proofs.make_frame.Goals as goal

pub returns-in_err-w : goal.returns-in_err-w
unfolding frame_of
returns-in_err-w c = ap answer_of (handed_on c.from_residual.result _ c.from_residual.ensures.1) ∙ simp (← c.in_err-w.ensures)

pub returns-then-w-gt8 : goal.returns-then-w-gt8
unfolding frame_of
returns-then-w-gt8 c = simp (← c.in_ok-w.ensures, lt-leb _ _ c.if-w-gt8.true)

pub returns-in_err-source : goal.returns-in_err-source
unfolding frame_of
returns-in_err-source c = ap answer_of (handed_on c.from_residual-in_err-source.result _ c.from_residual-in_err-source.ensures.1) ∙ simp (← c.in_ok-w.ensures, le-leb _ _ c.if-w-gt8.false, ← rw c.list_mode-mode.ensures at c.in_err-source.ensures)

pub returns : goal.returns
unfolding frame_of
returns c = simp (← c.in_ok-w.ensures, le-leb _ _ c.if-w-gt8.false, ← rw c.list_mode-mode.ensures at c.in_ok-source.ensures) (rw (c.capability_on-list.ensures, c.list_mode-mode.ensures) at c.frame_after.ensures)
