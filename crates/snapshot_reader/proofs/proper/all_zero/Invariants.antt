-- `snapshot_reader::proper::all_zero` meets its contract.
use mathlib.Core.Path.{◌≡◌}
use lib.Dec.{eqb}
use Rattle.snapshot_format.specs.Format.{zeros}
use Rattle.snapshot_reader.proofs.proper.all_zero.Given as goal

abbrev pub invariant-loop-b : goal.invariant-loop-b
invariant-loop-b l = eqb l.highest 0 ≡ zeros l.bytes l.from l.b-index
