use Rattle.recent.specs.Registers.{entered_in}
use Rattle.lent_registers.proofs.Loops.{Changing}
use Rattle.lent_registers.proofs.renewal.enter.Given as goal

abbrev pub invariant-loop-i : goal.invariant-loop-i
invariant-loop-i l = Changing (entered_in l.entry.capability l.frame) l.i l.initial.recent l.recent
