-- `crossing_log::run_logged` meets its contract.
use mathlib.Core.Path.{◌≡◌, refl, sym}
use lib.ListN.{length}
use borrow.Author.Tests.{eq-eqb}
use Rattle.words.proofs.Results.{number-ne_0}
use Rattle.crossing_log.specs.Log.{log_call}
use Rattle.crossing_log.proofs.JudgeLaws.{judged-fit}
use Rattle.crossing_log.proofs.run_logged.Goals as goal

pub returns-in-Err : goal.returns-in-Err
unfolding log_call
returns-in-Err c = simp (← c.in-Err.ensures, number-ne_0 c.in-Err.refusal) refl

pub follow-requires : goal.follow-requires
follow-requires c =
    let eight : length c.args.m.frames ≡ 8 = c.well_formed.0.1.1.1.1.1.0.1.0.1 in
    let fit = judged-fit _ _ _ (sym c.in-Ok.ensures) in
    record { sound_record = (fit.0, eight); in_bounds = fit.1 }

pub returns-in-Ok : goal.returns-in-Ok
unfolding log_call
returns-in-Ok c = simp (eq-eqb _ _ (sym c.in-Ok.ensures)) c.follow.ensures
