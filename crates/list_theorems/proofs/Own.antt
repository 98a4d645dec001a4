-- The frame of a call, beside the one that the caller's own list would make.
use Prim.Native.Nat.{ℕ}
use mathlib.Core.Bool.{not}
use mathlib.Core.List.{List}
use mathlib.Core.Path.{◌≡◌, refl, sym}
use lib.Dec.{leb}
use lib.IntN.{pos}
use lib.ListN.{replicate}
use lib.Seq.{set-set}
use Rattle.words.specs.Answer.{Answer, refuse, ok, ◌>>=◌, ◌>>◌, require}
use Rattle.words.specs.Numbers.{bad_argument}
use Rattle.words.specs.declared.pointer.Pointer.{Pointer}
use Rattle.state.specs.declared.record.Capability.{Capability}
use Rattle.state.specs.declared.record.Frame.{Frame}
use Rattle.state.specs.Record.{no_capability}
use Rattle.references.specs.Live.{passed_of}
use Rattle.memory.specs.Reader.{Reader}
use Rattle.addressing.specs.Effective.{displaced_by}
use Rattle.arguments.specs.ArgumentList.{list_pointer, source_of, arguments_from, list_capability, filled_of, frame_after, frame_of}
use Rattle.list_theorems.specs.Statements.{UntaggedOwn, with_row, CoveredOwn}

pub untagged-own : UntaggedOwn
unfolding frame_of source_of
untagged-own read a s caller depth f e = simp e

-- what follows an answer follows its value
module _ {A B C : Type 0} (g : B → Answer C) where
  bound : (x : Answer A) (f : A → Answer B) (h : A → Answer C) → ((a : A) → (f a >>= g) ≡ h a) → (x >>= f >>= g) ≡ (x >>= h)
  bound (refuse n) f h e = refl
  bound (ok a) f h e = e a

  past : (x : Answer A) (y : Answer B) (z : Answer C) → (y >>= g) ≡ z → (x >> y >>= g) ≡ (x >> z)
  past (refuse n) y z e = refl
  past (ok a) y z e = e

-- what is left of a list after its source, with the list's capability: after the return location, after word 2, after the arguments
module _ (read : Reader) (a s : Pointer) (caller depth : ℕ) (f : Frame) (n : ℕ) where
  abbrev filled_with : Capability → Pointer → List Capability → Answer Frame
  filled_with list back rows = ok (filled_of rows list s back caller n)

  abbrev arguments_with : Capability → Pointer → Answer Frame
  arguments_with list back = arguments_from read a caller depth f n 0 (replicate 9 no_capability) >>= filled_with list back

  abbrev returning : Capability → Pointer → Answer Frame
  returning list back = require (not back.tag) bad_argument >> (displaced_by a (pos 2) >> arguments_with list back)

  -- the list's row filled anew
  module _ (list other : Capability) where
    abbrev anew : Frame → Answer Frame
    anew g = ok (with_row n other g)

    filled-anew : (back : Pointer) (rows : List Capability) → (filled_with list back rows >>= anew) ≡ filled_with other back rows
    filled-anew back rows = simp set-set

    after-anew : (frame_after read a s caller depth f list n >>= anew) ≡ frame_after read a s caller depth f other n
    unfolding frame_after
    after-anew =
        bound anew (list_pointer read a 1) (returning list) (returning other) (λ back.
        past anew (require (not back.tag) bad_argument) (displaced_by a (pos 2) >> arguments_with list back) (displaced_by a (pos 2) >> arguments_with other back)
        (past anew (displaced_by a (pos 2)) (arguments_with list back) (arguments_with other back)
        (bound anew (arguments_from read a caller depth f n 0 (replicate 9 no_capability)) (filled_with list back) (filled_with other back) (filled-anew back))))

pub covered-own : CoveredOwn
unfolding frame_of source_of passed_of
covered-own read a s caller depth f n c t e h =
    let own = list_capability a caller n in
    let passed = list_capability a c.source n in
    simp (e, t, h)
    (sym (past (anew read a s caller depth f n own passed) (require (leb n 8) bad_argument) (frame_after read a s caller depth f own n) (frame_after read a s caller depth f passed n)
    (after-anew read a s caller depth f n own passed)))
