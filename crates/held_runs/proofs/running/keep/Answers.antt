-- `held_runs::running::keep` meets its contract.
use mathlib.Core.Path.{sym, ◌∙◌}
use Rattle.held_runs.proofs.RunLaws.{put}
use Rattle.held_runs.proofs.running.keep.Goals as goal

pub returns-in_default : goal.returns-in_default
returns-in_default g c =
    let a = c.args in
    c.put_record.ensures ∙ sym (put g.N.Reason.number a.bytes.now _ a.end c.in_default.not-Refused)
