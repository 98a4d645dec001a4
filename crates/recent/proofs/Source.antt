-- A reference finds a capability of the same source through the registers as without them.
use Rattle.std.specs.Prelude.{if◌then◌else◌}
use Prim.Native.Nat.{ℕ, ◌-◌, ◌≤◌}
use mathlib.Core.Bool.{Bool, true, false}
use mathlib.Core.List.{List, []}
use mathlib.Core.Path.{◌≡◌, refl, sym, ap, ◌∙◌}
use lib.Dec.{eqb}
use lib.ListN.{get_or}
use Rattle.words.specs.Answer.{Answer, refuse, ok, ◌>>=◌}
use Rattle.state.specs.declared.record.Capability.{Capability}
use Rattle.state.specs.declared.record.Frame.{Frame}
use Rattle.state.specs.declared.record.Register.{Register}
use Rattle.state.specs.Record.{no_frame}
use Rattle.capabilities.specs.Search.{first_of}
use Rattle.recent.specs.Entering.{capabilities_of}
use Rattle.recent.specs.SoundRegisters.{contents_test}
use Rattle.recent.specs.Found.{Found, held_of, noted, searched, by_held, found_of}
use Rattle.recent.proofs.Logic.{some}
use Rattle.recent.proofs.Clear.{Clear}
use Rattle.recent.proofs.Agrees.{held_first}
use Rattle.recent.proofs.Contents.{sound-held}

-- what a reference finds, and the source of it
abbrev pub capability_found : Answer Found → Answer Capability
capability_found a = a >>= (λ f. ok f.capability)

abbrev pub source_found : Answer Found → Answer ℕ
source_found a = a >>= (λ f. ok f.capability.source)

module _ (fits : Capability → Bool) where
  -- what a full search finds is the first match, whatever the registers
  searched-first : (depth : ℕ) (cs : List Capability) (rs : List Register) → capability_found (searched depth fits cs rs) ≡ first_of fits cs
  searched-first depth cs rs = by (first_of fits cs)
    where
      by : (a : Answer Capability) → capability_found (a >>= (λ c. ok (record { capability = c; registers = noted depth cs rs c }))) ≡ a
      by (refuse n) = refl
      by (ok c) = refl

  -- without registers a reference finds the first match of the live frame, and 24 without a frame
  pub found_first : (depth : ℕ) (frame : Frame) → capability_found (found_of [] depth frame fits) ≡ (if eqb depth 0 then refuse 24 else first_of fits (capabilities_of frame))
  unfolding found_of held_of
  found_first depth frame = by (eqb depth 0)
    where
      by : (t : Bool) → capability_found (if t then refuse 24 else searched depth fits (capabilities_of frame) []) ≡ (if t then refuse 24 else first_of fits (capabilities_of frame))
      by true = refl
      by false = searched-first depth (capabilities_of frame) []

  searched-source : (depth : ℕ) (cs : List Capability) (rs : List Register) → source_found (searched depth fits cs rs) ≡ (first_of fits cs >>= (λ c. ok c.source))
  searched-source depth cs rs = by (first_of fits cs)
    where
      by : (a : Answer Capability) → source_found (a >>= (λ c. ok (record { capability = c; registers = noted depth cs rs c }))) ≡ (a >>= (λ c. ok c.source))
      by (refuse n) = refl
      by (ok c) = refl

  -- a sound register changes no source
  pub found-source : Clear fits → (depth : ℕ) (fs : List Frame) (rs : List Register) → contents_test depth fs rs ≡ true
      → source_found (found_of rs depth (get_or fs (depth - 1) no_frame) fits) ≡ source_found (found_of [] depth (get_or fs (depth - 1) no_frame) fits)
  unfolding found_of held_of
  found-source k depth fs rs e = by (eqb depth 0) refl
    where
      cs : List Capability
      cs = capabilities_of (get_or fs (depth - 1) no_frame)

      through : 1 ≤ depth → (a : Answer Register) → held_of depth fits rs ≡ a → source_found (by_held depth fits cs rs a) ≡ source_found (searched depth fits cs [])
      through l (refuse n) h = searched-source depth cs rs ∙ sym (searched-source depth cs [])
      through l (ok r) h =
          let t = held_first fits k depth cs rs (sound-held depth fs rs l e) r h in
          sym (searched-source depth cs [] ∙ ap (λ (a : Answer Capability). a >>= (λ c. ok c.source)) t.1 ∙ ap ok t.2)

      by : (t : Bool) → eqb depth 0 ≡ t
          → source_found (if t then refuse 24 else by_held depth fits cs rs (held_of depth fits rs)) ≡ source_found (if t then refuse 24 else searched depth fits cs [])
      by true z = refl
      by false z = through (some depth z) (held_of depth fits rs) refl
