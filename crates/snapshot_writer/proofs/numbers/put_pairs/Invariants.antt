-- `snapshot_writer::numbers::put_pairs` meets its contract.
use lib.ListN.{length}
use Rattle.snapshot_format.specs.Format.{pair_form}
use Rattle.snapshot_writer.proofs.Laws.{RowsPut}
use Rattle.snapshot_writer.proofs.numbers.put_pairs.Given as goal

abbrev pub invariant-loop-k : goal.invariant-loop-k
invariant-loop-k l = RowsPut pair_form l.numbers l.initial.output l.from (length l.numbers) l.output l.k
