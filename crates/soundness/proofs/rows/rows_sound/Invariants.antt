-- `soundness::rows::rows_sound` meets its contract.
use Rattle.std.specs.Prelude.{if◌then◌else◌}
use lib.Dec.{ltb}
use lib.ListN.{get_or}
use Rattle.state.specs.Record.{no_capability}
use Rattle.soundness.specs.Sound.{capability_test, empty_capability}
use Rattle.layout_soundness.proofs.All.{Left}
use Rattle.soundness.proofs.rows.rows_sound.Given as goal

abbrev pub invariant-loop-j : goal.invariant-loop-j
invariant-loop-j l = Left 9 (λ k. if ltb k l.count then capability_test l.domains (get_or l.capabilities k no_capability) else empty_capability (get_or l.capabilities k no_capability)) l.j
