-- `lent_registers::lookup::held` meets its contract.
use mathlib.Core.Bool.{not}
use Rattle.capabilities.specs.Search.{covers_of}
use Rattle.lent_registers.proofs.Loops.{Looking}
use Rattle.lent_registers.proofs.lookup.held.Given as goal

abbrev pub invariant-loop-i : goal.invariant-loop-i
invariant-loop-i l = Looking l.depth (covers_of l.segment l.word 1 l.read (not l.read)) l.recent l.i
