-- `snapshot_reader::form_number` meets its contract.
use mathlib.Core.Path.{sym}
use mathlib.Core.Bool.{true, false}
use borrow.Author.Tests.{lt-leb}
use Rattle.layout_soundness.proofs.Tests.{pass, stop, answered-true, answered-false}
use Rattle.snapshot_reader.specs.Formed.{formed}
use Rattle.snapshot_reader.proofs.Laws.{formed-as}
use Rattle.snapshot_reader.proofs.form_number.Goals as goal
use Rattle.snapshot_reader.proofs.form_number.Goals.{then-not-tags_proper-via-then-not-tags_proper as at_tags, then-not-tags_proper-via-else-not-tags_proper+then-not-frames_proper as at_frames, then-not-tags_proper-via-else-not-tags_proper+else-not-frames_proper+then-not-recent_proper as at_recent}

pub returns-then-bytes-lt1079 : goal.returns-then-bytes-lt1079
unfolding formed
returns-then-bytes-lt1079 c = simp (lt-leb _ _ c.if-bytes-lt1079.true)

pub returns-then-not-tags_proper : goal.returns-then-not-tags_proper
returns-then-not-tags_proper c =
    formed-as c.args.bytes.now false c.if-bytes-lt1079.false
    (elim c.then-not-tags_proper.branch [
      | at_tags w ↦ stop _ (answered-false c.tags_proper.ensures w.if-not-tags_proper.true)
      | at_frames w ↦ pass (answered-true c.tags_proper.ensures w.if-not-tags_proper.false) (stop _ (answered-false w.frames_proper.ensures w.if-not-frames_proper.true))
      | at_recent w ↦ pass (answered-true c.tags_proper.ensures w.if-not-tags_proper.false) (pass (answered-true w.frames_proper.ensures w.if-not-frames_proper.false) (sym (answered-false w.recent_proper.ensures w.if-not-recent_proper.true)))
    ])

pub returns : goal.returns
returns c = formed-as c.args.bytes.now true c.if-bytes-lt1079.false (pass (answered-true c.tags_proper.ensures c.if-not-tags_proper.false) (pass (answered-true c.frames_proper.ensures c.if-not-frames_proper.false) (sym (answered-true c.recent_proper.ensures c.if-not-recent_proper.false))))
