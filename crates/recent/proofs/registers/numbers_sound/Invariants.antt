-- `recent::registers::numbers_sound` meets its contract.
use Rattle.recent.specs.SoundRegisters.{numbers_test}
use Rattle.recent.proofs.Walk.{Left}
use Rattle.recent.proofs.registers.numbers_sound.Given as goal

abbrev pub invariant-loop-i : goal.invariant-loop-i
invariant-loop-i l = Left numbers_test (numbers_test l.recent) l.recent l.i
