-- A call that is judged fit has a sound record, at most eight frames in use, and 8,192 words.
use Rattle.std.specs.Prelude.{if◌then◌else◌}
use Prim.Native.Nat.{ℕ, ◌≤◌}
use native.Mathlib.Omega.{arith}
use mathlib.Core.Bool.{Bool, true, false}
use mathlib.Core.List.{List}
use mathlib.Core.Path.{◌≡◌, refl}
use borrow.Author.Tests.{leb-true}
use lib.Dec.{leb}
use lib.ListN.{length}
use Rattle.state.specs.declared.record.Machine.{Machine}
use Rattle.soundness.specs.Sound.{sound_test}
use Rattle.soundness.proofs.Facts.{sound-facts}
use Rattle.runs.specs.Run.{judged}

pub judged-sound : (m : Machine) (words : List ℕ) → judged m words ≡ 0 → sound_test m ≡ true
unfolding judged
judged-sound m words e = by (sound_test m) e
  where
    by : (t : Bool) → ◌≡◌ {A = ℕ} (if t then (if leb 8192 (length words) then 0 else 7) else 9) 0 → t ≡ true
    by true h = refl
    by false h = absurd (omega (arith, h))

pub judged-long : (m : Machine) (words : List ℕ) → judged m words ≡ 0 → 8192 ≤ length words
unfolding judged
judged-long m words e = leb-true _ _ (by (sound_test m) (leb 8192 (length words)) e)
  where
    by : (sound long : Bool) → ◌≡◌ {A = ℕ} (if sound then (if long then 0 else 7) else 9) 0 → long ≡ true
    by sound true h = refl
    by true false h = absurd (omega (arith, h))
    by false false h = absurd (omega (arith, h))

pub judged-depth : (m : Machine) (words : List ℕ) → judged m words ≡ 0 → m.depth ≤ 8
judged-depth m words e = (sound-facts m (judged-sound m words e)).frames.most
