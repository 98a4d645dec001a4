use Rattle.lent_registers.proofs.Loops.{Changing, risen_in}
use Rattle.lent_registers.proofs.renewal.touch.Given as goal

abbrev pub invariant-loop-i : goal.invariant-loop-i
invariant-loop-i l = Changing (risen_in l.old) l.i l.initial.recent l.recent
