-- A live check through registers that fit gives what the check with no registers gives.
use Prim.Native.Nat.{ℕ}
use native.Mathlib.Omega.{arith}
use mathlib.Core.Bool.{Bool, true, not}
use mathlib.Core.List.{List, []}
use mathlib.Core.Path.{◌≡◌, sym, ap, ◌∙◌}
use Rattle.words.specs.Answer.{Answer}
use Rattle.state.specs.declared.record.Capability.{Capability}
use Rattle.state.specs.declared.record.Frame.{Frame}
use Rattle.state.specs.declared.record.Register.{Register}
use Rattle.state.specs.declared.record.Machine.{Machine}
use Rattle.state.specs.Record.{in_use}
use Rattle.capabilities.specs.Search.{covers_of}
use Rattle.recent.specs.SoundRegisters.{contents_test}
use Rattle.recent.proofs.Clear.{covers-clear}
use Rattle.recent.proofs.Source.{found_first, found-source}
use Rattle.recent.proofs.Kept.{recent-contents}
use Rattle.references.specs.declared.flag.Access.{Access}
use Rattle.references.specs.Flag.{is_read}
use Rattle.references.specs.Live.{live_match, sourced, live_of, live_through}
use Rattle.references.specs.Private.{found_source}
use Rattle.references.proofs.Sources.{sourced_by, through-found}
use Rattle.executions.proofs.Parts.{live}
use Rattle.executions.proofs.RecentKept.{in-use}
use Rattle.executions.proofs.Fit.{Fit}

-- with the list of no registers
pub through-none : (lengths rights : List ℕ) (depth : ℕ) (f : Frame) (a : Access) (s w : ℕ) → live_through lengths rights [] depth f a s w ≡ live_of lengths rights depth f a s w
unfolding live_through live_of live_match
through-none lengths rights depth f a s w = ap (λ (x : Answer Capability). sourced lengths rights a s w x) (found_first (covers_of s w 1 (is_read a) (not (is_read a))) depth f)

module _ (m : Machine) (f : Fit m) where
  contents : contents_test (in_use m.depth) m.frames m.recent ≡ true
  contents = rw (in-use m.depth f.few) (recent-contents m.depth m.frames m.recent f.recent)

  abbrev through : List Register → Access → ℕ → ℕ → ℕ
  through rs a s w = live_through m.layout.lengths m.layout.rights rs (in_use m.depth) (live m) a s w

  same_source : (s w : ℕ) (read : Bool) → found_source m.recent (in_use m.depth) (live m) s w read ≡ found_source [] (in_use m.depth) (live m) s w read
  unfolding found_source
  same_source s w read = found-source (covers_of s w 1 read (not read)) (covers-clear s w 1 (omega arith) read (not read)) (in_use m.depth) m.frames m.recent contents

  pub live_same : (a : Access) (s w : ℕ) → through m.recent a s w ≡ live_of m.layout.lengths m.layout.rights (in_use m.depth) (live m) a s w
  live_same a s w =
      through-found m.layout.lengths m.layout.rights m.recent (in_use m.depth) (live m) a s w
      ∙ ap (sourced_by m.layout.lengths m.layout.rights a s w) (same_source s w (is_read a))
      ∙ sym (through-found m.layout.lengths m.layout.rights [] (in_use m.depth) (live m) a s w)
      ∙ through-none m.layout.lengths m.layout.rights (in_use m.depth) (live m) a s w
