-- `held_log::keep_total` meets its contract.
use mathlib.Core.Path.{sym}
use Rattle.words.specs.Refusal.{number}
use Rattle.held_runs.proofs.RunLaws.{put}
use Rattle.held_log.proofs.keep_total.Goals as goal

pub returns-in_default : goal.returns-in_default
returns-in_default c = let a = c.args in sym (put number a.place.now a.total a.end c.in_default.not-Refused)
