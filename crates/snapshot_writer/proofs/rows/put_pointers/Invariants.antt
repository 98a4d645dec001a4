-- `snapshot_writer::rows::put_pointers` meets its contract.
use Rattle.snapshot_format.specs.RecordForm.{pointer_form}
use Rattle.snapshot_writer.proofs.Laws.{RowsPut}
use Rattle.snapshot_writer.proofs.rows.put_pointers.Given as goal

abbrev pub invariant-loop-k : goal.invariant-loop-k
invariant-loop-k l = RowsPut pointer_form l.pointers l.initial.output 230 8 l.output l.k
