-- Sound registers stay sound in a step: by the references of an instruction, whatever its reader, by a call, by a return.
use Rattle.std.specs.Prelude.{if◌then◌else◌}
use Prim.Native.Nat.{ℕ, ◌+◌, ◌-◌, ◌*◌, ◌<◌, ◌≤◌}
use mathlib.Core.Bool.{Bool, true, false, not}
use mathlib.Core.List.{List, [], ◌∷◌}
use mathlib.Core.Path.{◌≡◌}
use borrow.Author.Tests.{le-leb}
use lib.ListN.{length, get_or, set}
use Rattle.words.specs.Answer.{Answer}
use Rattle.words.specs.declared.pointer.Pointer.{Pointer}
use Rattle.words.specs.declared.instruction.Instruction.{Instruction}
use Rattle.state.specs.declared.record.Frame.{Frame}
use Rattle.state.specs.declared.record.Register.{Register}
use Rattle.state.specs.declared.record.Machine.{Machine}
use Rattle.state.specs.Record.{no_frame, in_use, live_frame}
use Rattle.capabilities.specs.Search.{covers_of}
use Rattle.recent.specs.Found.{found_of, registers_after, referred_to}
use Rattle.recent.specs.SoundRegisters.{recent_test}
use Rattle.recent.proofs.Kept.{found-sound, called-sound, returned-sound}
use Rattle.references.specs.Flag.{is_read}
use Rattle.references.specs.Made.{MadeReference, made_read, renewed, renewed_all}
use Rattle.memory.specs.Reader.{Reader}
use Rattle.instructions.specs.Made.{made_of}
use Rattle.arguments.specs.ArgumentList.{list_made}
use Rattle.crossings.specs.Crossing.{called_recent, left_recent}
use Rattle.runs.specs.Step.{recent_after}

-- a depth that a sound record has
pub in-use : (depth : ℕ) → depth ≤ 8 → in_use depth ≡ depth
in-use depth h = rw (le-leb depth 8 h)

module _ (depth : ℕ) (fs : List Frame) (few : depth ≤ 8) where
  -- by a reference
  pub renewed-recent : (rs : List Register) → recent_test depth fs rs ≡ true → (r : MadeReference) → recent_test depth fs (renewed rs (in_use depth) (live_frame depth fs) r) ≡ true
  unfolding renewed referred_to
  renewed-recent rs t r = rw (in-use depth few) (by r.pointer.tag)
    where
      by : (u : Bool)
          → recent_test depth fs
          (if u then registers_after rs (found_of rs depth (get_or fs (depth - 1) no_frame) (covers_of r.pointer.segment r.pointer.word 1 (is_read r.access) (not (is_read r.access)))) else rs) ≡ true
      by true = found-sound depth fs rs t (covers_of r.pointer.segment r.pointer.word 1 (is_read r.access) (not (is_read r.access)))
      by false = t

  -- by references, one after the other
  pub all-recent : (rs : List Register) → recent_test depth fs rs ≡ true → (made : List MadeReference) → recent_test depth fs (renewed_all rs (in_use depth) (live_frame depth fs) made) ≡ true
  unfolding renewed_all
  all-recent rs t [] = t
  all-recent rs t (r ∷ made) = all-recent (renewed rs (in_use depth) (live_frame depth fs) r) (renewed-recent rs t r) made

  module _ (rs : List Register) (t : recent_test depth fs rs ≡ true) where
    -- by a call with the frame f
    pub called-recent : depth < length fs → (a : Pointer) (f : Frame) → 1 ≤ f.count → f.count ≤ length f.capabilities
        → recent_test (depth + 1) (set fs depth f) (called_recent rs (in_use depth) (live_frame depth fs) a f) ≡ true
    unfolding called_recent
    called-recent room a f some rows =
        let made = list_made a (3 + 2 * (f.count - 1)) 0 in
        let s = called-sound depth fs (renewed_all rs (in_use depth) (live_frame depth fs) made) (all-recent rs t made) room f some rows in
        rw (in-use depth few) (rw (in-use depth few) at s)

    -- by a return; what is put in the frame's row does not matter
    pub left-recent : 1 ≤ depth → (g : Frame) (q : Pointer) → recent_test (depth - 1) (set fs (depth - 1) g) (left_recent rs (in_use depth) (live_frame depth fs) q) ≡ true
    unfolding left_recent
    left-recent some g q =
        let s = returned-sound depth fs (renewed rs (in_use depth) (live_frame depth fs) (made_read q)) (renewed-recent rs t (made_read q)) some g in
        rw (in-use depth few) (rw (in-use depth few) at s)

-- after the references of the instruction that a machine fetched
pub after-recent : (m : Machine) → m.depth ≤ 8 → recent_test m.depth m.frames m.recent ≡ true → (read : Reader) (i : Answer Instruction)
    → recent_test m.depth m.frames (recent_after m read i) ≡ true
unfolding recent_after
after-recent m few t read i = all-recent m.depth m.frames few m.recent t (made_of read m.pointers i)
