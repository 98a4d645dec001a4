-- `snapshot_reader::numbers::row` meets its contract.
use native.Mathlib.Omega.{arith}
use mathlib.Core.Path.{◌∙◌}
use Rattle.snapshot_reader.proofs.Laws.{row-taken}
use Rattle.snapshot_reader.proofs.numbers.row.Goals as goal

pub returns : goal.returns
returns g c = c.copy_from_slice.ensures.after ∙ row-taken c.args.bytes.now c.args.i g.row.N (omega (arith, c.requires))
