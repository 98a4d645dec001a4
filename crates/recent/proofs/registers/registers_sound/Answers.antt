-- `recent::registers::registers_sound` meets its contract.
use Rattle.std.proofs.Common.{rules, tests}
use Rattle.recent.specs.SoundRegisters.{recent_test}
use Rattle.recent.proofs.registers.registers_sound.Goals as goal

pub returns-then-numbers_sound : goal.returns-then-numbers_sound
unfolding recent_test
returns-then-numbers_sound c = search (rules, tests)

pub returns-else-numbers_sound : goal.returns-else-numbers_sound
unfolding recent_test
returns-else-numbers_sound c = search (rules, tests)
