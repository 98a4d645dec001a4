use Rattle.lent_registers.proofs.Whole.{Ranked}
use Rattle.lent_registers.proofs.renewal.ranks.Given as goal

abbrev pub invariant-loop-i : goal.invariant-loop-i
invariant-loop-i l = Ranked l.frame l.recent l.i l.numbers
