use Rattle.lent_registers.proofs.Whole.{Gathering}
use Rattle.lent_registers.proofs.columns.gathered.Given as goal

abbrev pub invariant-loop-i : goal.invariant-loop-i
invariant-loop-i l = Gathering l.recent l.i l.registers
