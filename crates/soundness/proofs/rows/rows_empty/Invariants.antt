-- `soundness::rows::rows_empty` meets its contract.
use lib.ListN.{get_or}
use Rattle.state.specs.Record.{no_capability}
use Rattle.soundness.specs.Sound.{empty_capability}
use Rattle.layout_soundness.proofs.All.{Left}
use Rattle.soundness.proofs.rows.rows_empty.Given as goal

abbrev pub invariant-loop-c : goal.invariant-loop-c
invariant-loop-c l = Left 9 (λ k. empty_capability (get_or l.fn.capabilities k no_capability)) l.c-index
