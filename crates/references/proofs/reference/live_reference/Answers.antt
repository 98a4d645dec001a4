-- `references::reference::live_reference` meets its contract.
use mathlib.Core.Path.{sym, ap, ◌∙◌}
use borrow.Author.Tests.{eq-eqb}
use Rattle.words.specs.Refusal.{answer_of}
use Rattle.words.proofs.Results.{number-ne_0, handed_on}
use Rattle.references.specs.Reference.{live_reference_of}
use Rattle.references.proofs.Passes.{through-exists, exists-facts}
use Rattle.references.proofs.reference.live_reference.Goals as goal

pub bounds-view-i : goal.bounds-view-i
bounds-view-i c = (exists-facts _ _ _ (through-exists _ _ _ _ _ _ _ _ (sym c.in_ok-live_check.ensures))).0

pub returns-in_err-live_check : goal.returns-in_err-live_check
unfolding live_reference_of
returns-in_err-live_check c =
    let r = handed_on c.from_residual.result _ c.from_residual.ensures.1 in
    ap answer_of r ∙ simp (← c.in_err-live_check.ensures, number-ne_0 c.in_err-live_check.field-0.0)

pub returns : goal.returns
unfolding live_reference_of
returns c = simp (eq-eqb _ _ (sym c.in_ok-live_check.ensures), c.index.ensures)
