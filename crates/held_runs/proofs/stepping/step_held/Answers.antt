-- `held_runs::stepping::step_held` meets its contract.
use mathlib.Core.Path.{ap, ◌∙◌}
use Rattle.std.specs.Prelude.{Ok}
use Rattle.processor.specs.Calls.{step_call}
use Rattle.processor.specs.declared.Pace.TheVariants as pace
use Rattle.held_runs.proofs.OpenLaws.{opened-refused, opened-ok}
use Rattle.held_runs.proofs.RunLaws.{step-refused, step-faulted, step-done}
use Rattle.held_runs.proofs.stepping.step_held.Goals as goal

pub returns-in-Err : goal.returns-in-Err
returns-in-Err c =
    let a = c.args in
    let e = step-refused step_call a.bytes.now a.words.now _ (opened-refused _ _ c.in-Err.ensures) in
    record { code = c.number.ensures ∙ e.0; bytes = e.1.0; words = e.1.1 }

pub returns-in-Err-pace : goal.returns-in-Err-pace
returns-in-Err-pace c =
    let a = c.args in
    let e = step-faulted a.bytes.now a.words.now _ _ _ (opened-ok _ _ c.in_default.ensures c.record_or_empty-m.ensures) c.step-s.ensures _ c.in-Err-pace.is in
    record { code = c.number-in-Err-pace.ensures ∙ e.0; bytes = e.1.0; words = e.1.1 }

pub returns-in-GoesOn : goal.returns-in-GoesOn
returns-in-GoesOn c =
    let a = c.args in
    let d = step-done a.bytes.now a.words.now _ _ _ (opened-ok _ _ c.in_default.ensures c.record_or_empty-m.ensures) c.step-s.ensures pace.GoesOn (c.in-Ok.is ∙ ap Ok c.in-GoesOn.is) in
    record { code = d.0; bytes = c.put_record.ensures ∙ d.1.0; words = d.1.1 }

pub returns-in-Halts : goal.returns-in-Halts
returns-in-Halts c =
    let a = c.args in
    let d = step-done a.bytes.now a.words.now _ _ _ (opened-ok _ _ c.in_default.ensures c.record_or_empty-m.ensures) c.step-s.ensures pace.Halts (c.in-Ok.is ∙ ap Ok c.in-Halts.is) in
    record { code = d.0; bytes = c.put_record.ensures ∙ d.1.0; words = d.1.1 }
