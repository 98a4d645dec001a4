-- `soundness::registers::pointers_sound` meets its contract.
use lib.ListN.{get_or}
use Rattle.state.specs.Record.{no_pointer}
use Rattle.soundness.specs.Sound.{pointer_test}
use Rattle.layout_soundness.proofs.All.{Left}
use Rattle.soundness.proofs.registers.pointers_sound.Given as goal

abbrev pub invariant-loop-p : goal.invariant-loop-p
invariant-loop-p l = Left 8 (λ k. pointer_test (get_or l.fn.pointers k no_pointer)) l.p-index
