-- Where there are no registers, none come: not by a reference, not by a call, not by a return.
use Rattle.std.specs.Prelude.{if◌then◌else◌}
use Prim.Native.Nat.{ℕ, ◌-◌, ◌+◌, ◌*◌}
use mathlib.Core.Bool.{Bool, true, false, not}
use mathlib.Core.List.{List, [], ◌∷◌}
use mathlib.Core.Path.{◌≡◌, refl, ap, ◌∙◌}
use lib.Dec.{eqb}
use lib.ListN.{get_or, take}
use Rattle.words.specs.Answer.{Answer, refuse, ok, ◌>>=◌}
use Rattle.words.specs.declared.pointer.Pointer.{Pointer}
use Rattle.state.specs.declared.record.Capability.{Capability}
use Rattle.state.specs.declared.record.Frame.{Frame}
use Rattle.state.specs.declared.record.Register.{Register}
use Rattle.state.specs.Record.{no_capability}
use Rattle.capabilities.specs.Search.{covers_of, first_of}
use Rattle.recent.specs.Entering.{all_yield, may_enter, capabilities_of}
use Rattle.recent.specs.Registers.{with_entry, cleared, listed}
use Rattle.recent.specs.Found.{held_of, noted, found_of, registers_after, referred_to}
use Rattle.references.specs.Flag.{is_read}
use Rattle.references.specs.Made.{MadeReference, made_read, renewed, renewed_all}
use Rattle.arguments.specs.ArgumentList.{list_made}
use Rattle.crossings.specs.Crossing.{called_recent, left_recent}

none-entered : (t : Bool) (c : Capability) (depth : ℕ) → (if t then with_entry c depth [] else []) ≡ []
unfolding with_entry
none-entered true c depth = refl
none-entered false c depth = refl

module _ (depth : ℕ) (frame : Frame) where
  none_found : (fits : Capability → Bool) → registers_after [] (found_of [] depth frame fits) ≡ []
  unfolding found_of held_of
  none_found fits = by (eqb depth 0) (first_of fits (capabilities_of frame))
    where
      by : (t : Bool) (a : Answer Capability)
          → registers_after [] (if t then refuse 24 else (a >>= (λ c. ok (record { capability = c; registers = noted depth (capabilities_of frame) [] c })))) ≡ []
      by true a = refl
      by false (refuse n) = refl
      by false (ok c) = none-entered (may_enter (capabilities_of frame) c) c depth

  none-renewed : (r : MadeReference) → renewed [] depth frame r ≡ []
  unfolding renewed referred_to
  none-renewed r = by r.pointer.tag
    where
      by : (t : Bool)
          → (if t then registers_after [] (found_of [] depth frame (covers_of r.pointer.segment r.pointer.word 1 (is_read r.access) (not (is_read r.access)))) else []) ≡ []
      by true = none_found (covers_of r.pointer.segment r.pointer.word 1 (is_read r.access) (not (is_read r.access)))
      by false = refl

  pub none-all : (made : List MadeReference) → renewed_all [] depth frame made ≡ []
  unfolding renewed_all
  none-all [] = refl
  none-all (r ∷ made) = ap (λ (rs : List Register). renewed_all rs depth frame made) (none-renewed r) ∙ none-all made

  none-listed : (f : Frame) → listed (depth + 1) f [] ≡ []
  unfolding listed
  none-listed f =
      let c = get_or f.capabilities (f.count - 1) no_capability in
      none-entered (all_yield (take (f.count - 1) f.capabilities) c) c (depth + 1)

  pub none-called : (a : Pointer) (f : Frame) → called_recent [] depth frame a f ≡ []
  unfolding called_recent
  none-called a f = ap (listed (depth + 1) f) (none-all (list_made a (3 + 2 * (f.count - 1)) 0)) ∙ none-listed f

  pub none_left : (q : Pointer) → left_recent [] depth frame q ≡ []
  unfolding left_recent cleared
  none_left q = ap (cleared depth) (none-renewed (made_read q))
