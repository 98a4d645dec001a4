-- `record_checks::statics::check_static` meets its contract.
use Rattle.layout_soundness.proofs.Tests.{answered-true, answered-false}
use Rattle.references.specs.Check.{static_check}
use Rattle.record_checks.specs.Judged.{judged_static}
use Rattle.record_checks.proofs.statics.check_static.Goals as goal

pub returns-then-not-sound : goal.returns-then-not-sound
unfolding judged_static
returns-then-not-sound c = simp (answered-false c.sound.ensures c.if-not-sound.true)

pub returns : goal.returns
unfolding judged_static static_check
returns c =
    simp (answered-true c.sound.ensures c.if-not-sound.false) (rw c.view_of.ensures at c.locate.ensures)
