-- `host::looks::check` meets its contract.
use mathlib.Core.Path.{ap, ◌∙◌}
use Rattle.words.specs.Refusal.{answer_of}
use Rattle.words.proofs.Results.{handed_on}
use Rattle.held_runs.proofs.OpenLaws.{opened-refused, opened-ok}
use Rattle.host.proofs.LookLaws.{check-refused, check-made}
use Rattle.host.proofs.looks.check.Goals as goal

pub returns-in_err-form_number : goal.returns-in_err-form_number
returns-in_err-form_number c =
    let a = c.args in
    ap answer_of (handed_on c.from_residual.result _ c.from_residual.ensures.1) ∙ check-refused a.bytes.now a.write a.tag a.segment a.word _ (opened-refused _ _ c.in_err-form_number.ensures)

pub returns : goal.returns
returns c =
    let a = c.args in
    check-made a.bytes.now a.write a.tag a.segment a.word _ _ (opened-ok _ _ c.in_ok-form_number.ensures c.record_or_empty-m.ensures) (rw c.access.ensures at c.check_reference.ensures)
