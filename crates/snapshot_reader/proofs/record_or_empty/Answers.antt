-- `snapshot_reader::record_or_empty` meets its contract.
use borrow.Author.Tests.{le-leb, lt-leb}
use Rattle.snapshot_format.specs.RecordForm.{record_in}
use Rattle.snapshot_reader.specs.Formed.{record_or}
use Rattle.snapshot_reader.proofs.record_or_empty.Goals as goal

pub returns-then-bytes-lt1079 : goal.returns-then-bytes-lt1079
unfolding record_in record_or
returns-then-bytes-lt1079 c = simp (lt-leb _ _ c.if-bytes-lt1079.true, c.fresh.ensures, c.empty_layout-none.ensures)

pub returns : goal.returns
unfolding record_in record_or
returns c = simp (le-leb _ _ c.if-bytes-lt1079.false, c.layout-layout.ensures, c.registers-registers.ensures, c.pointers-pointers.ensures, c.frames-frames.ensures, c.recent-recent.ensures)
