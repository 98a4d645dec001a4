use Rattle.lent_registers.proofs.Whole.{Spreading}
use Rattle.lent_registers.proofs.columns.spread.Given as goal

abbrev pub invariant-loop-i : goal.invariant-loop-i
invariant-loop-i l = Spreading l.registers l.i l.recent
