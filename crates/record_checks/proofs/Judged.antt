-- What an accepted check of a judged record says.
use Prim.Native.Nat.{ℕ, ◌<◌}
use native.Mathlib.Omega.{arith}
use mathlib.Core.Bool.{Bool, true, false}
use mathlib.Core.Path.{◌≡◌, refl}
use Rattle.words.specs.Answer.{ok, ◌>>◌, require}
use Rattle.words.specs.declared.pointer.Pointer.{Pointer}
use Rattle.state.specs.declared.record.Machine.{Machine}
use Rattle.soundness.specs.Sound.{sound_test}
use Rattle.soundness.proofs.Facts.{sound-facts}
use Rattle.references.specs.declared.flag.Access.{Access}
use Rattle.references.specs.Check.{check}
use Rattle.references.proofs.Places.{check-lt}
use Rattle.record_checks.specs.Judged.{judged_check}

-- its index is below 8,192
pub judged-lt : (m : Machine) (a : Access) (p : Pointer) (i : ℕ) → judged_check m a p ≡ ok i → i < 8192
unfolding judged_check
judged-lt m a p i e = by (sound_test m) refl e
  where
    by : (t : Bool) → sound_test m ≡ t → (require t 9 >> check m a p) ≡ ok i → i < 8192
    by true q e = omega (arith, check-lt m a p i e, (sound-facts m q).layout.words)
    by false q e = absurd (let z : ◌≡◌ {A = ℕ} 0 1 = cc in omega arith)
