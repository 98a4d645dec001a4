-- `record_checks::reference::check_reference` meets its contract.
use borrow.Author.Tests.{not-true, not-false}
use Rattle.layout_soundness.proofs.Tests.{answered-true, answered-false}
use Rattle.references.specs.Reference.{verdict_of, locate_of, live_reference_of, reference_of}
use Rattle.references.specs.Check.{check}
use Rattle.record_checks.specs.Judged.{judged_check}
use Rattle.record_checks.proofs.reference.check_reference.Goals as goal

pub returns-then-not-sound : goal.returns-then-not-sound
unfolding judged_check
returns-then-not-sound c = simp (answered-false c.sound.ensures c.if-not-sound.true)

pub returns-then-not-p : goal.returns-then-not-p
unfolding judged_check check reference_of verdict_of locate_of
returns-then-not-p c =
    simp (answered-true c.sound.ensures c.if-not-sound.false, not-true _ c.if-not-p.true, ← c.asked.ensures) (rw c.view_of-view.ensures at c.locate.ensures)

pub returns : goal.returns
unfolding judged_check check reference_of verdict_of live_reference_of
returns c =
    simp (answered-true c.sound.ensures c.if-not-sound.false, not-false _ c.if-not-p.false)
    (rw (c.view_of-view.ensures, c.spread-recent.ensures) at c.live_reference.ensures)
