-- A word that does not exist, or lies past the memory.
use Rattle.std.specs.Prelude.{if◌then◌else◌}
use Prim.Native.Nat.{ℕ, ◌<◌, ◌≤◌}
use native.Mathlib.Omega.{arith}
use mathlib.Core.Bool.{Bool, true, false, ◌&&◌}
use mathlib.Core.List.{List}
use mathlib.Core.Path.{◌≡◌, refl, sym, ap, ◌∙◌}
use borrow.Author.Tests.{le-ltb}
use lib.Dec.{ltb}
use lib.ListN.{get_or}
use Rattle.words.specs.Answer.{refuse, ok}
use Rattle.words.specs.declared.pointer.Pointer.{Pointer}
use Rattle.state.specs.declared.record.Frame.{Frame}
use Rattle.state.specs.declared.record.Register.{Register}
use Rattle.references.specs.declared.flag.Access.{Access}
use Rattle.references.specs.Static.{exists, static_of}
use Rattle.references.specs.Reference.{locate_of, reference_of, verdict_of}
use Rattle.memory.specs.Reader.{fetch_of}
use Rattle.memory.proofs.Answers.{refused-number, accepted-number}
use Rattle.state.specs.Record.{of_segment}

absent : (lengths : List ℕ) (s w : ℕ) → of_segment lengths s ≤ w → exists lengths s w ≡ false
unfolding exists
absent lengths s w h = by (ltb s 16) h
  where
    by : (t : Bool) → (if t then get_or lengths s 0 else 0) ≤ w → (t && ltb w (get_or lengths s 0)) ≡ false
    by true h = le-ltb w (get_or lengths s 0) h
    by false h = refl

pub fetch-absent : (lengths rights bases words : List ℕ) (d s w : ℕ) → of_segment lengths s ≤ w → fetch_of lengths rights bases words d s w ≡ refuse 21
unfolding fetch_of locate_of static_of
fetch-absent lengths rights bases words d s w h = rw (absent lengths s w h)

-- what a reference that was refused or passed says of its number
module _ (lengths rights bases : List ℕ) (d : ℕ) (rs : List Register) (depth : ℕ) (f : Frame) (a : Access) (p : Pointer) where
  pub reference-refused : (n : ℕ) → refuse n ≡ reference_of lengths rights bases d rs depth f a p → n ≡ verdict_of lengths rights d rs depth f a p
  unfolding reference_of
  reference-refused n e = refused-number _ _ _ e

  pub reference-passed : (i : ℕ) → ok i ≡ reference_of lengths rights bases d rs depth f a p → 0 ≡ verdict_of lengths rights d rs depth f a p
  unfolding reference_of
  reference-passed i e = sym (accepted-number _ _ _ e)
