-- `layout_soundness::gates_sound` meets its contract.
use lib.ListN.{get_or}
use Rattle.layout_soundness.specs.SoundLayout.{gate_test}
use Rattle.layout_soundness.proofs.All.{Left}
use Rattle.layout_soundness.proofs.gates_sound.Given as goal

abbrev pub invariant-loop-i : goal.invariant-loop-i
invariant-loop-i l = Left 16 (λ k. gate_test l.rights k (get_or l.gates k 0) (get_or l.gatedomains k 0)) l.i
