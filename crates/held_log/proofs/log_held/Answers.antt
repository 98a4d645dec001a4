-- `held_log::log_held` meets its contract.
use Rattle.held_runs.proofs.OpenLaws.{opened-refused, opened-ok}
use Rattle.held_log.proofs.LogLaws.{log-refused, log-ended}
use Rattle.held_log.proofs.log_held.Goals as goal

pub returns-in-Err : goal.returns-in-Err
returns-in-Err c =
    let a = c.args in
    let e = log-refused a.bytes.now a.words.now a.log.now a.calls.now a.returns.now _ _ (opened-refused _ _ c.in-Err.ensures) c.code.ensures in
    record { code = e.0; bytes = e.1.0; words = e.1.1.0; log = e.1.1.1.0; calls = e.1.1.1.1.0; returns = e.1.1.1.1.1 }

pub returns : goal.returns
returns c =
    let a = c.args in
    let e = log-ended a.bytes.now a.words.now a.log.now a.calls.now a.returns.now c.record_or_empty-m.result c.run_logged-l.result _ _ _ _ _ _ (opened-ok _ _ c.in_default.ensures c.record_or_empty-m.ensures) c.run_logged-l.ensures c.code-2.ensures c.keep.ensures c.keep_total.ensures c.keep_total-2.ensures in
    record { code = e.0; bytes = e.1.0; words = e.1.1.0; log = e.1.1.1.0; calls = e.1.1.1.1.0; returns = e.1.1.1.1.1 }
