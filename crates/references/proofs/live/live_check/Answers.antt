-- `references::live::live_check` meets its contract.
use mathlib.Core.Path.{sym, ap, ◌∙◌}
use borrow.Author.Tests.{eq-eqb}
use Rattle.words.specs.Refusal.{status}
use Rattle.words.proofs.Results.{number-ne_0, handed_on}
use Rattle.references.proofs.Sources.{through-found}
use Rattle.references.proofs.live.live_check.Goals as goal

pub returns-in_err-source : goal.returns-in_err-source
returns-in_err-source c =
    let r = handed_on c.from_residual.result _ c.from_residual.ensures.1 in
    ap status r ∙ simp (through-found, ← c.is_read.ensures, ← c.in_err-source.ensures)

pub returns-in-Ok : goal.returns-in-Ok
returns-in-Ok c =
    simp (through-found, ← c.is_read.ensures, ← c.in_ok-source.ensures, ← c.asked.ensures, eq-eqb _ _ (sym c.in-Ok.ensures))

pub returns-in-Err : goal.returns-in-Err
returns-in-Err c =
    simp (through-found, ← c.is_read.ensures, ← c.in_ok-source.ensures, ← c.asked.ensures, ← c.in-Err.ensures, number-ne_0 c.in-Err.field-0)
