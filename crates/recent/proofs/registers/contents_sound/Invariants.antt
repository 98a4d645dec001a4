-- `recent::registers::contents_sound` meets its contract.
use Rattle.recent.specs.SoundRegisters.{contents_test}
use Rattle.recent.proofs.Walk.{Left}
use Rattle.recent.proofs.registers.contents_sound.Given as goal

abbrev pub invariant-loop-r : goal.invariant-loop-r
invariant-loop-r l = Left (contents_test l.depth l.frames) (contents_test l.depth l.frames l.fn.recent) l.fn.recent l.r-index
