-- A fresh machine of a sound layout is sound.
use Prim.Native.Nat.{ℕ, ◌≤◌}
use native.Mathlib.Omega.{arith}
use mathlib.Core.Path.{◌≡◌, refl}
use mathlib.Core.Bool.{true, false}
use borrow.Author.Tests.{le-leb}
use lib.ListN.{replicate, set}
use Rattle.state.specs.Record.{no_pointer, free_frame}
use Rattle.layout_soundness.specs.SoundLayout.{all_from, ranges_test, layout_test}
use Rattle.soundness.specs.Sound.{pointer_test, pointers_test, empty_capability, empty_pointer, empty_frame, frames_test, sound_test}
use Rattle.fresh.specs.Fresh.{fresh_of}
use Rattle.recent.proofs.Kept.{fresh-recent}
use Rattle.layout_soundness.proofs.Tests.{both, join}
use Rattle.soundness.proofs.Facts.{layout-facts, facts-registers}
use Rattle.soundness.specs.Statements.{FreshSound}

pub free-frame : empty_frame free_frame ≡ true
unfolding empty_frame empty_pointer empty_capability all_from
free-frame = refl

stack-pointer : (segment : ℕ) → segment ≤ 15 → pointers_test (set (replicate 8 no_pointer) 2 (record { word = 0; segment = segment; tag = false })) ≡ true
unfolding pointers_test pointer_test all_from
stack-pointer segment h = simp (le-leb _ _ h)

no_frames : (domains : ℕ) → frames_test domains 0 (replicate 8 free_frame) ≡ true
unfolding frames_test empty_frame empty_pointer empty_capability all_from
no_frames domains = refl

pub fresh-sound : FreshSound
unfolding fresh_of sound_test layout_test
fresh-sound l e =
    let f = layout-facts l (both (ranges_test l) _ e).0 in
    join e
    (join (facts-registers _ _ (record { domain = f.start-domain; segment = omega arith; word = omega arith }))
    (join (stack-pointer _ (omega (arith, f.stacks l.start.domain (omega arith)))) (join (no_frames l.domains) (fresh-recent (replicate 8 free_frame)))))
