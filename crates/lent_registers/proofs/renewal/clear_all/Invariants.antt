use Rattle.recent.specs.Registers.{cleared_in}
use Rattle.lent_registers.specs.Columns.{registers_of}
use Rattle.lent_registers.proofs.Loops.{Changing}
use Rattle.lent_registers.proofs.renewal.clear_all.Given as goal

abbrev pub invariant-loop-i : goal.invariant-loop-i
invariant-loop-i l = Changing (cleared_in l.frame (registers_of l.initial.recent)) l.i l.initial.recent l.recent
