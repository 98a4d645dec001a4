-- In a sound record the words that exist are those of the segments counted.
use Prim.Native.Nat.{ℕ, ◌≤◌, ◌<◌}
use native.Mathlib.Omega.{arith}
use mathlib.Core.Bool.{Bool, true, false, ◌&&◌}
use mathlib.Core.List.{List}
use mathlib.Core.Path.{◌≡◌, refl}
use borrow.Author.Tests.{ltb-true, ltb-false, lt-ltb, le-ltb}
use lib.Dec.{ltb}
use lib.ListN.{get_or}
use Rattle.soundness.proofs.Facts.{sound-facts}
use Rattle.references.specs.Static.{exists}
use Rattle.record_checks.specs.Statements.{ExistsCounted}

-- of sixteen rows, those from a number of segments on are zero
module _ (lengths : List ℕ) (segments : ℕ) (most : segments ≤ 16) (unused : (i : ℕ) → segments ≤ i → i < 16 → get_or lengths i 0 ≡ 0) (s w : ℕ) where
  absent : segments ≤ s → (t : Bool) → ltb s 16 ≡ t → (t && ltb w (get_or lengths s 0)) ≡ false
  absent h true p = rw (unused s h (ltb-true _ _ p)) (le-ltb w 0 (omega arith))
  absent h false p = refl

  counted : exists lengths s w ≡ (ltb s segments && ltb w (get_or lengths s 0))
  unfolding exists
  counted = by (ltb s segments) refl
    where
      by : (t : Bool) → ltb s segments ≡ t → (ltb s 16 && ltb w (get_or lengths s 0)) ≡ (t && ltb w (get_or lengths s 0))
      by true p = let h = ltb-true s segments p in rw (lt-ltb s 16 (omega arith))
      by false p = absent (ltb-false s segments p) (ltb s 16) refl

pub exists-counted : ExistsCounted
exists-counted m s w e =
    let l = (sound-facts m e).layout in
    counted m.layout.lengths m.layout.segments l.segments l.unused s w
