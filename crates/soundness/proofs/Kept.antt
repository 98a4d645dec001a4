-- Changes of a record that keep its parts sound: a pointer is set, a frame is pushed, the newest frame is popped.
use Prim.Native.Nat.{ℕ, zero, suc, ◌+◌, ◌-◌, ◌<◌, ◌≤◌}
use native.Mathlib.Omega.{arith}
use native.Mathlib.Decide.{ℕ_discrete}
use mathlib.Core.Path.{◌≡◌, ◌∙◌, ap}
use mathlib.Core.Bool.{true}
use mathlib.Core.List.{List, [], ◌∷◌}
use lib.ListN.{length, get_or, set}
use lib.Seq.{get_or-set_same, get_or-set_other}
use Rattle.words.specs.declared.pointer.Pointer.{Pointer}
use Rattle.state.specs.declared.record.Frame.{Frame}
use Rattle.state.specs.Record.{no_pointer, no_frame}
use Rattle.soundness.specs.Sound.{empty_frame}
use Rattle.soundness.proofs.Facts.{PointerSound, PointersSound, FrameSound, FramesSound}

-- what holds of the new element, and of the old one at k, holds of the one at k
set_keeps : {A : Type 0} (P : A → Type 0) (d : A) (xs : List A) (i : ℕ) (a : A) (k : ℕ) → P a → P (get_or xs k d) → P (get_or (set xs i a) k d)
set_keeps P d [] i a k p q = q
set_keeps P d (x ∷ xs) zero a zero p q = p
set_keeps P d (x ∷ xs) zero a (suc k) p q = q
set_keeps P d (x ∷ xs) (suc i) a zero p q = q
set_keeps P d (x ∷ xs) (suc i) a (suc k) p q = set_keeps P d xs i a k p q

pub pointer-set : (ps : List Pointer) (i : ℕ) (p : Pointer) → PointersSound ps → PointerSound p → PointersSound (set ps i p)
pointer-set ps i p f s k h = set_keeps PointerSound no_pointer ps i p k s (f k h)

module _ (domains depth : ℕ) (fs : List Frame) (room : length fs ≡ 8) (s : FramesSound domains depth fs) (f : Frame) where
  pub frame_pushed : depth < 8 → FrameSound domains f → FramesSound domains (depth + 1) (set fs depth f)
  frame_pushed less new =
      record {
        most = omega arith;
        used = λ i h. at i h (ℕ_discrete i depth);
        unused = λ i h l. ap empty_frame (get_or-set_other fs depth i f no_frame (λ e. omega arith)) ∙ s.unused i (omega arith) l;
      }
    where
      at : (i : ℕ) → i < depth + 1 → Dec (i ≡ depth) → FrameSound domains (get_or (set fs depth f) i no_frame)
      at i h (yes e) = rw (e, get_or-set_same fs depth f no_frame (rw room less)) new
      at i h (no n) = rw (get_or-set_other fs depth i f no_frame n) (s.used i (omega (arith, n)))

  pub frame-popped : 1 ≤ depth → empty_frame f ≡ true → FramesSound domains (depth - 1) (set fs (depth - 1) f)
  frame-popped some new =
      record {
        most = omega (arith, s.most);
        used = λ i h. rw (get_or-set_other fs (depth - 1) i f no_frame (λ e. omega arith)) (s.used i (omega arith));
        unused = λ i h l. at i h l (ℕ_discrete i (depth - 1));
      }
    where
      at : (i : ℕ) → depth - 1 ≤ i → i < 8 → Dec (i ≡ depth - 1) → empty_frame (get_or (set fs (depth - 1) f) i no_frame) ≡ true
      at i h l (yes e) = rw (e, get_or-set_same fs (depth - 1) f no_frame (rw room (omega arith))) new
      at i h l (no n) = rw (get_or-set_other fs (depth - 1) i f no_frame n) (s.unused i (omega (arith, n)) l)
