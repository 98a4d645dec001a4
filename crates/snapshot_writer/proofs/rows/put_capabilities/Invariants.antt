-- `snapshot_writer::rows::put_capabilities` meets its contract.
use Rattle.snapshot_format.specs.RecordForm.{capability_form}
use Rattle.snapshot_writer.proofs.Laws.{RowsPut}
use Rattle.snapshot_writer.proofs.rows.put_capabilities.Given as goal

abbrev pub invariant-loop-k : goal.invariant-loop-k
invariant-loop-k l = RowsPut capability_form l.capabilities l.initial.output l.first l.used l.output l.k
