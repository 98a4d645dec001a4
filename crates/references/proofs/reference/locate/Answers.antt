-- `references::reference::locate` meets its contract.
use mathlib.Core.Path.{sym, ap, ◌∙◌}
use borrow.Author.Tests.{eq-eqb}
use Rattle.words.specs.Refusal.{answer_of}
use Rattle.words.proofs.Results.{number-ne_0, handed_on}
use Rattle.references.specs.Reference.{locate_of}
use Rattle.references.proofs.Passes.{static-exists, exists-facts}
use Rattle.references.proofs.reference.locate.Goals as goal

pub bounds-view-i : goal.bounds-view-i
bounds-view-i c = (exists-facts _ _ _ (static-exists _ _ _ _ _ _ (sym (c.in_ok-static_check.ensures)))).0

pub returns-in_err-static_check : goal.returns-in_err-static_check
unfolding locate_of
returns-in_err-static_check c =
    let r = handed_on c.from_residual.result _ c.from_residual.ensures.1 in
    ap answer_of r ∙ simp (← c.in_err-static_check.ensures, number-ne_0 c.in_err-static_check.field-0.0)

pub returns : goal.returns
unfolding locate_of
returns c = simp (eq-eqb _ _ (sym (c.in_ok-static_check.ensures)), c.index.ensures)
