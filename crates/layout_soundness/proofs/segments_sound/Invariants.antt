-- `layout_soundness::segments_sound` meets its contract.
use lib.ListN.{get_or}
use Rattle.layout_soundness.specs.SoundLayout.{segment_test}
use Rattle.layout_soundness.proofs.All.{Left}
use Rattle.layout_soundness.proofs.segments_sound.Given as goal

abbrev pub invariant-loop-i : goal.invariant-loop-i
invariant-loop-i l = Left 16 (λ k. segment_test l.segments l.domains k (get_or l.lengths k 0) (get_or l.gates k 0) (get_or l.gatedomains k 0)) l.i
