-- `layout_soundness::rights_sound` meets its contract.
use lib.ListN.{get_or}
use Rattle.layout_soundness.specs.SoundLayout.{rights_test}
use Rattle.layout_soundness.proofs.All.{Sofar}
use Rattle.layout_soundness.proofs.rights_sound.Given as goal

abbrev pub invariant-loop-i : goal.invariant-loop-i
invariant-loop-i l = Sofar 128 (λ k. rights_test l.segments l.domains k (get_or l.rights k 0)) l.i l.all
