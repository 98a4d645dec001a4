-- `crossings::crossing::leave` meets its contract.
use mathlib.Core.Path.{sym, ap, ◌∙◌}
use borrow.Author.Tests.{eq-eqb}
use Rattle.words.proofs.Results.{number-ne_0, handed_on}
use Rattle.crossings.specs.Parts.{crossed_answer}
use Rattle.crossings.proofs.crossing.leave.Goals as goal

pub returns-in_err-leave_check : goal.returns-in_err-leave_check
returns-in_err-leave_check c =
    ap crossed_answer (handed_on c.from_residual.result _ c.from_residual.ensures.1) ∙
    simp (← c.pointer_at.ensures, ← c.in_err-leave_check.ensures, number-ne_0 c.in_err-leave_check.field-0.0)

pub returns : goal.returns
returns c =
    simp (← c.pointer_at.ensures, eq-eqb _ _ (sym c.in_ok-leave_check.ensures), c.free_frame.ensures, c.at_place.ensures, c.with_base.ensures, c.stack_of-stack.ensures, c.with_pointer-restored.ensures)
