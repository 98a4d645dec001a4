-- `held_images::restart_held` meets its contract.
use mathlib.Core.Path.{sym, ap, ◌∙◌}
use Rattle.words.specs.Refusal.{status}
use Rattle.words.proofs.Results.{handed_on}
use Rattle.snapshot_format.specs.RecordForm.{with_record}
use Rattle.held_runs.proofs.OpenLaws.{opened-refused, opened-ok}
use Rattle.held_images.proofs.ReadLaws.{restart-refused, restart-unsound, restart-made}
use Rattle.held_images.proofs.restart_held.Goals as goal

pub returns-in_err-form_number : goal.returns-in_err-form_number
returns-in_err-form_number c =
    let e = restart-refused c.args.bytes.now _ (opened-refused _ _ c.in_err-form_number.ensures) in
    record { number = ap status (handed_on c.from_residual.result _ c.from_residual.ensures.1) ∙ e.0; bytes = e.1 }

pub returns-then-not-sound : goal.returns-then-not-sound
returns-then-not-sound c =
    let e = restart-unsound _ _ (opened-ok _ _ c.in_ok-form_number.ensures c.record_or_empty-m.ensures) (sym c.sound.ensures ∙ c.if-not-sound.true) in
    record { number = e.0; bytes = e.1 }

pub returns : goal.returns
returns c =
    let e = restart-made _ _ _ (opened-ok _ _ c.in_ok-form_number.ensures c.record_or_empty-m.ensures) (sym c.sound.ensures ∙ c.if-not-sound.false) (c.put_record.ensures ∙ ap (with_record _) c.fresh-machine.ensures) in
    record { number = e.0; bytes = e.1 }
