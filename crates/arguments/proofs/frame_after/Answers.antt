-- `arguments::frame_after` meets its contract.
use mathlib.Core.Path.{ap, ◌∙◌}
use Rattle.words.specs.Refusal.{answer_of}
use Rattle.words.proofs.Results.{handed_on}
use Rattle.arguments.specs.ArgumentList.{list_pointer, frame_after}
use Rattle.addressing.specs.Effective.{displaced_by}
use Rattle.arguments.proofs.frame_after.Goals as goal

pub returns-in_err-w : goal.returns-in_err-w
unfolding list_pointer frame_after displaced_by
returns-in_err-w c = ap answer_of (handed_on c.from_residual.result _ c.from_residual.ensures.1) ∙ simp (← c.in_err-w.ensures)

pub returns-in_err-back : goal.returns-in_err-back
unfolding list_pointer frame_after displaced_by
returns-in_err-back c = ap answer_of (handed_on c.from_residual-in_err-back.result _ c.from_residual-in_err-back.ensures.1) ∙ simp (← c.in_ok-w.ensures, ← c.in_err-back.ensures)

pub returns-then-back : goal.returns-then-back
unfolding list_pointer frame_after displaced_by
returns-then-back c = simp (← c.in_ok-w.ensures, ← c.in_ok-back.ensures, c.if-back.true)

pub returns-in_err-climb : goal.returns-in_err-climb
unfolding list_pointer frame_after displaced_by
returns-in_err-climb c = ap answer_of (handed_on c.from_residual-in_err-climb.result _ c.from_residual-in_err-climb.ensures.1) ∙ simp (← c.in_ok-w.ensures, ← c.in_ok-back.ensures, c.if-back.false, ← c.in_err-climb.ensures)

pub returns-in_err-rows : goal.returns-in_err-rows
unfolding list_pointer frame_after displaced_by
returns-in_err-rows c = ap answer_of (handed_on c.from_residual-in_err-rows.result _ c.from_residual-in_err-rows.ensures.1) ∙ simp (← c.in_ok-w.ensures, ← c.in_ok-back.ensures, c.if-back.false, ← c.in_ok-climb.ensures, ← c.in_err-rows.ensures)

pub returns : goal.returns
unfolding list_pointer frame_after displaced_by
returns c = simp (← c.in_ok-w.ensures, ← c.in_ok-back.ensures, c.if-back.false, ← c.in_ok-climb.ensures, ← c.in_ok-rows.ensures, c.filled.ensures)
