-- `snapshot_writer::rows::put_frames` meets its contract.
use Rattle.snapshot_format.specs.RecordForm.{frame_form}
use Rattle.snapshot_writer.proofs.Laws.{RowsPut}
use Rattle.snapshot_writer.proofs.rows.put_frames.Given as goal

abbrev pub invariant-loop-k : goal.invariant-loop-k
invariant-loop-k l = RowsPut frame_form l.frames l.initial.output 263 l.used l.output l.k
