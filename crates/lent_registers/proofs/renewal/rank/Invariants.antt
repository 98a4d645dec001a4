use Rattle.lent_registers.proofs.Loops.{Ranking}
use Rattle.lent_registers.proofs.renewal.rank.Given as goal

abbrev pub invariant-loop-i : goal.invariant-loop-i
invariant-loop-i l = Ranking l.frame l.place l.recent l.i l.n
