-- Bounds of a local run: what is counted is below the limit, and an entry has a frame free.
use Rattle.std.specs.Prelude.{if◌then◌else◌}
use Prim.Native.Nat.{ℕ, zero, suc, ◌+◌, ◌-◌, ◌<◌, ◌≤◌}
use native.Mathlib.Omega.{arith}
use mathlib.Core.Bool.{Bool, true, false}
use mathlib.Core.List.{List}
use mathlib.Core.Path.{◌≡◌, refl, ◌∙◌}
use lib.Dec.{eqb}
use lib.ListN.{length, get_or}
use Rattle.words.specs.Answer.{Answer, refuse, ok, ◌>>=◌}
use Rattle.words.specs.declared.pointer.Pointer.{Pointer}
use Rattle.state.specs.declared.record.Frame.{Frame}
use Rattle.state.specs.declared.record.Register.{Register}
use Rattle.state.specs.declared.record.Registers.{Registers}
use Rattle.references.specs.declared.flag.Access.TheVariants as access
use Rattle.references.specs.Reference.{verdict_of}
use Rattle.instructions.specs.Stages.{Stage}
use Rattle.instructions.specs.Stages as stage
use Rattle.instructions.specs.Plan.{Plan, halt, move, store, enter, leave}
use Rattle.words.specs.InstructionWord.{instruction_of}
use Rattle.memory.specs.Reader.{read_of, fetch_of}
use Rattle.instructions.specs.Made.{place_of}
use Rattle.instructions.specs.Cycle.{Progress, ended, moved, entering, leaving, settled, planned, cycle_of, cycle_words, cycle_recent}
use Rattle.crossings.specs.Crossing.{leave_check}
use Rattle.arguments.specs.ArgumentList.{frame_of}
use Rattle.state.specs.Record.{no_pointer}
use Rattle.local_runs.specs.LocalRun.{Paused, after_cycle, local_from}
use Rattle.runs.specs.Private.{Countable, Resumed, ends, goes, resume_after, resume_of}
use Rattle.runs.proofs.Free.{Free, plan-free}
use Rattle.local_runs.proofs.LocalRuns.{cycle-length}
use Rattle.crossings.specs.Parts.{Changes, enter_parts, leave_parts}

-- an event that ends a local run before the limit, after low instructions at least, and finds a frame free where it enters
abbrev pub Fine : ℕ → ℕ → ℕ → ℕ → Stage → Type 0
Fine depth low limit n stage.Moved = Unit {0}
Fine depth low limit n (stage.Pointed i p) = Unit {0}
Fine depth low limit n stage.Halted = n < limit
Fine depth low limit n (stage.Faulted f) = Unit {0}
Fine depth low limit n (stage.Entering p) = (n < limit) × ((low ≤ n) × (depth < 8))
Fine depth low limit n (stage.Leaving p q) = (n < limit) × (low ≤ n)

pub fine-countable : (depth low limit n : ℕ) → limit ≤ 65535 → (e : Stage) → Fine depth low limit n e → Countable n e
fine-countable depth low limit n h stage.Moved f = tt
fine-countable depth low limit n h (stage.Pointed i p) f = tt
fine-countable depth low limit n h stage.Halted f = omega (arith, f)
fine-countable depth low limit n h (stage.Faulted k) f = tt
fine-countable depth low limit n h (stage.Entering p) f = omega (arith, f.0)
fine-countable depth low limit n h (stage.Leaving p q) f = omega (arith, f.0)

abbrev FreeCycle : ℕ → Answer Progress → Type 0
FreeCycle depth (refuse n) = Unit {0}
FreeCycle depth (ok ended) = Unit {0}
FreeCycle depth (ok (moved r ps)) = Unit {0}
FreeCycle depth (ok (entering p)) = depth < 8
FreeCycle depth (ok (leaving p q)) = Unit {0}

either-free : (depth : ℕ) (t : Bool) (r : Registers) (ps : List Pointer) (n : ℕ) → FreeCycle depth (if t then ok (moved r ps) else refuse n)
either-free depth true r ps n = tt
either-free depth false r ps n = tt

module _ (lengths gates rights stacks bases : List ℕ) (depth : ℕ) (frame : Frame) where
  settled-free : (words : List ℕ) (recent : List Register) (r : Registers) (ps : List Pointer) (q : Pointer) (plan : Answer Plan) → Free depth plan
      → FreeCycle depth (plan >>= settled lengths rights bases words recent depth frame r ps q)
  settled-free words recent r ps q (refuse n) f = tt
  settled-free words recent r ps q (ok halt) f = tt
  settled-free words recent r ps q (ok (move a s w qs)) f = tt
  settled-free words recent r ps q (ok (store p v)) f = either-free depth (eqb (verdict_of lengths rights r.domain recent depth frame access.Write p) 0) _ _ _
  settled-free words recent r ps q (ok (enter p)) f = f
  settled-free words recent r ps q (ok (leave p)) f = tt

  cycle-free : (words : List ℕ) (recent : List Register) (r : Registers) (ps : List Pointer) → FreeCycle depth (cycle_of lengths gates rights stacks bases words recent depth frame r ps)
  unfolding cycle_of
  cycle-free words recent r ps =
      settled-free words recent r ps (place_of ps (fetch_of lengths rights bases words r.domain r.segment r.word >>= instruction_of))
      (planned lengths gates rights stacks bases words recent depth frame r ps)
      (plan-free depth lengths gates rights stacks r ps (read_of lengths rights bases words r.domain recent depth frame) (fetch_of lengths rights bases words r.domain r.segment r.word))

  abbrev from : ℕ → ℕ → Registers → List Pointer → List ℕ → List Register → Paused
  from = local_from lengths gates rights stacks bases depth frame

  pub local-fine : (low limit k n : ℕ) → low ≤ n → n + k ≡ limit → (r : Registers) (ps : List Pointer) (words : List ℕ) (recent : List Register)
      → Fine depth low limit (from k n r ps words recent).stop.count (from k n r ps words recent).stop.stage
  unfolding local_from
  local-fine low limit zero n h e r ps words recent = tt
  local-fine low limit (suc k) n h e r ps words recent =
      by (local-fine low limit k (n + 1) (omega arith) (omega arith)) (cycle_of lengths gates rights stacks bases words recent depth frame r ps) (cycle-free words recent r ps)
    where
      by : ((s : Registers) (qs : List Pointer) (v : List ℕ) (rs : List Register) → Fine depth low limit (from k (n + 1) s qs v rs).stop.count (from k (n + 1) s qs v rs).stop.stage)
          → (t : Answer Progress) → FreeCycle depth t
          → let p = after_cycle (from k (n + 1)) n r ps (cycle_words lengths gates rights stacks bases words recent depth frame r ps) (cycle_recent lengths gates rights stacks bases words recent depth frame r ps) t in
          Fine depth low limit p.stop.count p.stop.stage
      by more (refuse f) free = tt
      by more (ok ended) free = omega arith
      by more (ok (moved s qs)) free = more s qs _ _
      by more (ok (entering p)) free = (omega arith, (h, free))
      by more (ok (leaving p q)) free = (omega arith, h)

  pub local-length : (k n : ℕ) (r : Registers) (ps : List Pointer) (words : List ℕ) (recent : List Register) → length (from k n r ps words recent).words ≡ length words
  unfolding local_from
  local-length zero n r ps words recent = refl
  local-length (suc k) n r ps words recent =
      by (local-length k (n + 1)) (cycle_of lengths gates rights stacks bases words recent depth frame r ps) (cycle_words lengths gates rights stacks bases words recent depth frame r ps)
      (cycle_recent lengths gates rights stacks bases words recent depth frame r ps) (cycle-length lengths gates rights stacks bases depth frame words recent r ps)
    where
      by : ((s : Registers) (qs : List Pointer) (v : List ℕ) (rs : List Register) → length (from k (n + 1) s qs v rs).words ≡ length v)
          → (t : Answer Progress) (next : List ℕ) (new : List Register) → length next ≡ length words → length (after_cycle (from k (n + 1)) n r ps next new t).words ≡ length words
      by more (refuse f) next new h = h
      by more (ok ended) next new h = h
      by more (ok (moved s qs)) next new h = more s qs next new ∙ h
      by more (ok (entering p)) next new h = h
      by more (ok (leaving p q)) next new h = h

-- a run that goes on has a row for its frame, and has counted
abbrev pub Room : ℕ → ℕ → Resumed → Type 0
Room low limit (ends r ps n e) = Unit {0}
Room low limit (goes n row depth c) = (row < 8) × ((depth ≤ 8) × ((low < n) × (n ≤ limit)))

after-room : (low limit n : ℕ) (r : Registers) (ps : List Pointer) (row depth : ℕ) → low ≤ n → n < limit → row < 8 → depth ≤ 8 → (c : Answer Changes) → Room low limit (resume_after r ps n row depth c)
after-room low limit n r ps row depth l h i j (refuse f) = tt
after-room low limit n r ps row depth l h i j (ok c) = (i, (j, (omega arith, omega arith)))

module _ (lengths rights bases gatedomains stacks words : List ℕ) (recent : List Register) (depth : ℕ) (frame : Frame) (r : Registers) (ps : List Pointer) (low limit n : ℕ) (most : depth ≤ 8) where
  pub resume-room : (e : Stage) → Fine depth low limit n e → Room low limit (resume_of lengths rights bases gatedomains stacks words recent depth frame r ps n e)
  resume-room stage.Moved f = tt
  resume-room (stage.Pointed i p) f = tt
  resume-room stage.Halted f = tt
  resume-room (stage.Faulted k) f = tt
  resume-room (stage.Entering p) f =
      after-room low limit n r ps depth (depth + 1) f.1.0 f.0 f.1.1 (omega (arith, f.1.1))
      (enter_parts gatedomains stacks r ps p (frame_of (read_of lengths rights bases words r.domain recent depth frame) (get_or ps 0 no_pointer) (get_or ps 1 no_pointer) r.domain depth frame))
  resume-room (stage.Leaving p q) f =
      after-room low limit n r ps (depth - 1) (depth - 1) f.1 f.0 (omega arith) (omega arith)
      (leave_parts stacks r ps p frame (leave_check lengths rights depth frame (get_or ps 1 no_pointer) p))
