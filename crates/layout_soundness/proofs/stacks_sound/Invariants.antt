-- `layout_soundness::stacks_sound` meets its contract.
use lib.ListN.{get_or}
use Rattle.layout_soundness.specs.SoundLayout.{stack_test}
use Rattle.layout_soundness.proofs.All.{Left}
use Rattle.layout_soundness.proofs.stacks_sound.Given as goal

abbrev pub invariant-loop-i : goal.invariant-loop-i
invariant-loop-i l = Left 8 (λ k. stack_test l.segments l.domains k (get_or l.stacks k 0)) l.i
