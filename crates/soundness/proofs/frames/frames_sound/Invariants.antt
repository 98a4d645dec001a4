-- `soundness::frames::frames_sound` meets its contract.
use Rattle.std.specs.Prelude.{if◌then◌else◌}
use lib.Dec.{ltb}
use lib.ListN.{get_or}
use Rattle.state.specs.Record.{no_frame}
use Rattle.soundness.specs.Sound.{frame_test, empty_frame}
use Rattle.layout_soundness.proofs.All.{Left}
use Rattle.soundness.proofs.frames.frames_sound.Given as goal

abbrev pub invariant-loop-i : goal.invariant-loop-i
invariant-loop-i l = Left 8 (λ k. if ltb k l.depth then frame_test l.domains (get_or l.fn.frames k no_frame) else empty_frame (get_or l.fn.frames k no_frame)) l.i
