-- What is proved of soundness; the proof stands in proofs/FreshSound.antt.
use Rattle.std.specs.Prelude.{true, ◌≡◌}
use Rattle.state.specs.declared.record.Layout.{Layout}
use Rattle.fresh.specs.Fresh.{fresh_of}
use Rattle.layout_soundness.specs.SoundLayout.{layout_test}
use Rattle.soundness.specs.Sound.{sound_test}

-- the fresh machine of a sound layout is sound
abbrev pub FreshSound : Type 0
FreshSound = (l : Layout) → layout_test l ≡ true → sound_test (fresh_of l) ≡ true
