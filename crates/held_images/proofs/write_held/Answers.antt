-- `held_images::write_held` meets its contract.
use mathlib.Core.Path.{ap, ◌∙◌}
use Rattle.words.specs.Refusal.{answer_of}
use Rattle.words.proofs.Results.{handed_on}
use Rattle.held_runs.proofs.OpenLaws.{opened-refused, opened-ok}
use Rattle.held_images.proofs.WriteLaws.{write-refused, write-made}
use Rattle.held_images.proofs.write_held.Goals as goal

pub returns-in_err-form_number : goal.returns-in_err-form_number
returns-in_err-form_number c =
    let a = c.args in
    let e = write-refused a.bytes.now a.words.now a.output.now _ (opened-refused _ _ c.in_err-form_number.ensures) in
    record { value = ap answer_of (handed_on c.from_residual.result _ c.from_residual.ensures.1) ∙ e.0; output = e.1 }

pub returns : goal.returns
returns c =
    let a = c.args in
    let e = write-made a.bytes.now a.words.now a.output.now _ _ _ (opened-ok _ _ c.in_ok-form_number.ensures c.record_or_empty-m.ensures) c.write.ensures.value c.write.ensures.output_after in
    record { value = e.0; output = e.1 }
