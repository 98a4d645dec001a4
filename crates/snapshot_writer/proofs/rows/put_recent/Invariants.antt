-- `snapshot_writer::rows::put_recent` meets its contract.
use Rattle.snapshot_format.specs.RecordForm.{register_form}
use Rattle.snapshot_writer.proofs.Laws.{RowsPut}
use Rattle.snapshot_writer.proofs.rows.put_recent.Given as goal

abbrev pub invariant-loop-k : goal.invariant-loop-k
invariant-loop-k l = RowsPut register_form l.recent l.initial.output 919 16 l.output l.k
