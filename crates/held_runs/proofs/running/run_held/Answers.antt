-- `held_runs::running::run_held` meets its contract.
use Rattle.runs.specs.Run.{run_from, called_of}
use mathlib.Core.Path.{◌∙◌}
use Rattle.held_runs.specs.Private.{UnusedFree}
use Rattle.held_runs.proofs.OpenLaws.{opened-refused, opened-ok}
use Rattle.held_runs.proofs.JudgeLaws.{unused-free, called-refused, called-judged}
use Rattle.held_runs.proofs.RunLaws.{run-refused, run-refused-of, run-ended}
use Rattle.held_runs.proofs.running.run_held.Goals as goal

pub returns-in-Err : goal.returns-in-Err
returns-in-Err c =
    let a = c.args in
    let e = run-refused (called_of (run_from a.stretch a.limit 0)) a.bytes.now a.words.now _ _ (opened-refused _ _ c.in-Err.ensures) c.code.ensures in
    record { code = e.0; bytes = e.1.0; words = e.1.1 }

pub judge-requires : goal.judge-requires
judge-requires c = unused-free _ _ c.in_default.ensures c.record_or_empty-m.ensures

pub returns-in-Err-judge : goal.returns-in-Err-judge
returns-in-Err-judge c =
    let a = c.args in
    let run = run_from a.stretch a.limit 0 in
    let e = run-refused-of (called_of run) a.bytes.now a.words.now _ _ _ (opened-ok _ _ c.in_default.ensures c.record_or_empty-m.ensures) (called-refused run _ _ _ c.in-Err-judge.ensures) c.code-in-Err-judge.ensures in
    record { code = e.0; bytes = e.1.0; words = e.1.1 }

pub returns : goal.returns
returns c =
    let u : UnusedFree c.record_or_empty-m.result = unused-free _ _ c.in_default.ensures c.record_or_empty-m.ensures in
    let a = c.args in
    let run = run_from a.stretch a.limit 0 in
    let e = run-ended (called_of run) a.bytes.now a.words.now c.record_or_empty-m.result c.run_judged-o.result _ _ _ (opened-ok _ _ c.in_default.ensures c.record_or_empty-m.ensures) (c.run_judged-o.ensures ∙ called-judged run _ _ c.in_default-judge.ensures u.most) c.code-2.ensures c.keep.ensures in
    record { code = e.0; bytes = e.1.0; words = e.1.1 }
