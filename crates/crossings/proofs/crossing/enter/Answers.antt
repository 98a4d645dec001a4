-- `crossings::crossing::enter` meets its contract.
use mathlib.Core.Path.{ap, ◌∙◌}
use Rattle.words.proofs.Results.{handed_on}
use Rattle.crossings.specs.Parts.{crossed_answer}
use Rattle.crossings.proofs.crossing.enter.Goals as goal

pub returns-in_err-frame : goal.returns-in_err-frame
returns-in_err-frame c =
    ap crossed_answer (handed_on c.from_residual.result _ c.from_residual.ensures.1) ∙
    simp (← c.pointer_at.ensures, ← c.pointer_at-2.ensures, ← c.in_err-frame.ensures)

pub returns : goal.returns
returns c =
    simp (← c.pointer_at.ensures, ← c.pointer_at-2.ensures, ← c.in_ok-frame.ensures, c.at_place.ensures, c.with_base.ensures, c.stack_of-stack.ensures, c.with_tag.ensures, c.gate_domain_of-domain.ensures)
