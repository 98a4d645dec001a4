use Rattle.lent_registers.specs.Columns.{register_at}
use Rattle.lent_registers.proofs.Bytes.{times}
use Rattle.lent_registers.proofs.cells.register_at.Goals as goal

pub returns : goal.returns
unfolding register_at
returns c = simp (c.from_le_bytes.ensures, c.from_le_bytes-2.ensures, times)
