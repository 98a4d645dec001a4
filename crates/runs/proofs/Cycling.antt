-- A run as a local run, then an ending or a crossing to go on from.
use Rattle.std.specs.Prelude.{if◌then◌else◌}
use Prim.Native.Nat.{ℕ, zero, suc, ◌+◌, ◌-◌}
use native.Mathlib.Omega.{arith}
use mathlib.Core.Bool.{Bool, true, false}
use mathlib.Core.List.{List}
use mathlib.Core.Path.{◌≡◌, refl, sym, ◌∙◌}
use lib.Dec.{eqb}
use lib.ListN.{get_or, set}
use Rattle.words.specs.Answer.{Answer, refuse, ok, ◌>>=◌}
use Rattle.words.specs.declared.pointer.Pointer.{Pointer}
use Rattle.state.specs.declared.record.Frame.{Frame}
use Rattle.state.specs.declared.record.Register.{Register}
use Rattle.state.specs.declared.record.Registers.{Registers}
use Rattle.state.specs.declared.record.Machine.{Machine}
use Rattle.state.specs.Record.{no_pointer, in_use, live_frame}
use Rattle.state.specs.Bases.{bases_of}
use Rattle.references.specs.declared.flag.Access.TheVariants as access
use Rattle.references.specs.Reference.{verdict_of, accept, index_of, reference_of}
use Rattle.references.specs.Check.{check}
use Rattle.instructions.specs.Stages.{Stage}
use Rattle.instructions.specs.Stages as stage
use Rattle.memory.specs.Reader.{read_of, fetch_of, read_word, fetch, stored, written_of}
use Rattle.instructions.specs.Plan.{Plan, halt, move, store, enter, leave}
use Rattle.words.specs.InstructionWord.{instruction_of}
use Rattle.words.specs.declared.instruction.Instruction.{Instruction}
use Rattle.references.specs.Made.{renewed_all}
use Rattle.instructions.specs.Instruction.{plan_of}
use Rattle.instructions.specs.Made.{made_of, place_of}
use Rattle.instructions.specs.Cycle.{Progress, ended, moved, entering, leaving, moved_registers, settled, settled_words, cycle_of, cycle_words, cycle_recent, recent_by}
use Rattle.memory.proofs.Answers.{accept-then}
use Rattle.arguments.specs.ArgumentList.{frame_of}
use Rattle.crossings.specs.Crossing.{entered, left, enter_of, leave_of, leave_check}
use Rattle.runs.specs.Step.{cross, done, resolve, recent_after, decide, commit, execute}
use Rattle.runs.specs.Step.{proceeded}
use Rattle.runs.specs.Run.{Ran, ran, halted, crossed, faulted, after, run_from}
use Rattle.local_runs.specs.LocalRun.{Paused, after_cycle, local_from}
use Rattle.runs.specs.Private.{Resumed, ends, goes, resume_after, resume_of, crossed_recent}
use Rattle.crossings.specs.Parts.{Changes, enter_parts, leave_parts}

-- a machine with other parts
abbrev pub with_parts : Machine → Registers → List Pointer → List Register → Machine
with_parts m r pointers recent = record { layout = m.layout; registers = r; pointers = pointers; frames = m.frames; recent = recent; depth = m.depth }

-- a machine after a crossing
abbrev pub crossed_to : Machine → ℕ → ℕ → List Register → Changes → Machine
crossed_to m row depth recent c =
    record { layout = m.layout; registers = c.registers; pointers = c.pointers; frames = set m.frames row c.frame; recent = recent; depth = depth }

-- its registers after the crossing at an event
abbrev pub crossed_at : Machine → Stage → Changes → List Register
crossed_at m e c = crossed_recent m.recent m.depth (live_frame m.depth m.frames) m.pointers c.frame e

-- the run that is resumed at an event
abbrev pub continued : Bool → ℕ → Machine → List ℕ → Stage → Resumed → Ran
continued stretch limit m words e (ends r pointers n x) = ran (with_parts m r pointers m.recent) words n x
continued stretch limit m words e (goes n row depth c) =
    if stretch then ran (crossed_to m row depth (crossed_at m e c) c) words n crossed else run_from stretch (limit - n) n (crossed_to m row depth (crossed_at m e c) c) words

-- how a machine's run resumes at an event
abbrev pub resume_at : Machine → List ℕ → ℕ → Stage → Resumed
resume_at m words n e =
    resume_of m.layout.lengths m.layout.rights (bases_of m.layout.lengths) m.layout.gatedomains m.layout.stacks words m.recent m.depth (live_frame m.depth m.frames) m.registers m.pointers n e

-- a machine's local run
abbrev pub local_at : Machine → ℕ → ℕ → List ℕ → Paused
local_at m k n words =
    local_from m.layout.lengths m.layout.gates m.layout.rights m.layout.stacks (bases_of m.layout.lengths) m.depth (live_frame m.depth m.frames) k n m.registers m.pointers words m.recent

-- a run after a local run
abbrev pub resume_local : Bool → ℕ → Machine → Paused → Ran
resume_local stretch limit m p =
    let n = with_parts m p.stop.registers p.stop.pointers p.recent in
    continued stretch limit n p.words p.stop.stage (resume_at n p.words p.stop.count p.stop.stage)

module _ (stretch : Bool) (limit k n : ℕ) (count : limit - (n + 1) ≡ k) (m : Machine) (words : List ℕ) where
  -- a crossing that was answered
  answered : (row depth : ℕ) (e : Stage) (x : Answer Machine) (c : Answer Changes) → x ≡ (c >>= (λ d. ok (crossed_to m row depth (crossed_at m e d) d)))
      → after stretch (run_from stretch k (n + 1)) n m words (x >>= (λ d. ok (cross d)) >>= commit m words) ≡ continued stretch limit m words e (resume_after m.registers m.pointers n row depth c)
  unfolding commit
  answered row depth e x (refuse f) q = rw q refl
  answered row depth e x (ok c) q = rw (q, count) refl

  module _ (u : in_use m.depth ≡ m.depth) where
    entered-goes : (p : Pointer) (made : Answer Frame) →
        (made >>= (λ f. ok (entered m p f)))
        ≡ (enter_parts m.layout.gatedomains m.layout.stacks m.registers m.pointers p made >>= (λ d. ok (crossed_to m m.depth (m.depth + 1) (crossed_at m (stage.Entering p) d) d)))
    unfolding entered
    entered-goes p (refuse f) = refl
    entered-goes p (ok f) = rw u refl

    left-goes : (p q : Pointer) (v : ℕ) → let f = live_frame m.depth m.frames in
        accept v (left m q p f) ≡ (leave_parts m.layout.stacks m.registers m.pointers p f v >>= (λ d. ok (crossed_to m (m.depth - 1) (m.depth - 1) (crossed_at m (stage.Leaving p q) d) d)))
    unfolding left
    left-goes p q v = sym (accept-then v _ (left m q p (live_frame m.depth m.frames)) (λ d. ok (crossed_to m (m.depth - 1) (m.depth - 1) (crossed_at m (stage.Leaving p q) d) d)) (rw u refl))

    -- a call through a gate, and a return, whose answer is known
    enters : (p : Pointer) (made : Answer Frame) →
        after stretch (run_from stretch k (n + 1)) n m words (made >>= (λ f. ok (entered m p f)) >>= (λ d. ok (cross d)) >>= commit m words)
        ≡ continued stretch limit m words (stage.Entering p) (resume_after m.registers m.pointers n m.depth (m.depth + 1) (enter_parts m.layout.gatedomains m.layout.stacks m.registers m.pointers p made))
    enters p made = answered m.depth (m.depth + 1) (stage.Entering p) _ (enter_parts m.layout.gatedomains m.layout.stacks m.registers m.pointers p made) (entered-goes p made)

    leaves : (p q : Pointer) (v : ℕ) → let f = live_frame m.depth m.frames in
        after stretch (run_from stretch k (n + 1)) n m words (accept v (left m q p f) >>= (λ d. ok (cross d)) >>= commit m words)
        ≡ continued stretch limit m words (stage.Leaving p q) (resume_after m.registers m.pointers n (m.depth - 1) (m.depth - 1) (leave_parts m.layout.stacks m.registers m.pointers p f v))
    leaves p q v =
        answered (m.depth - 1) (m.depth - 1) (stage.Leaving p q) _ (leave_parts m.layout.stacks m.registers m.pointers p (live_frame m.depth m.frames) v) (left-goes p q v)

  abbrev depth : ℕ
  depth = m.depth

  abbrev frame : Frame
  frame = live_frame m.depth m.frames

  abbrev bases : List ℕ
  bases = bases_of m.layout.lengths

  -- the run after an instruction that came so far, the words after it and the registers after its references given
  abbrev pub cycled : List ℕ → List Register → Answer Progress → Ran
  cycled next new (refuse f) = ran m next n (faulted f)
  cycled next new (ok ended) = ran m next (n + 1) halted
  cycled next new (ok (moved r pointers)) = run_from stretch k (n + 1) (with_parts m r pointers new) next
  cycled next new (ok (entering p)) = continued stretch limit m next (stage.Entering p) (resume_at m next n (stage.Entering p))
  cycled next new (ok (leaving p q)) = continued stretch limit m next (stage.Leaving p q) (resume_at m next n (stage.Leaving p q))

  -- a store, by the number of its check
  stores : (v i a : ℕ) (next : Machine) →
      after stretch (run_from stretch k (n + 1)) n m words (accept v i >>= (λ j. ok (done next (set words j a) proceeded)))
      ≡ after stretch (run_from stretch k (n + 1)) n m (stored words a (accept v i)) (accept v (done next (stored words a (accept v i)) proceeded))
  stores v i a next = by (eqb v 0)
    where
      by : (t : Bool) →
          after stretch (run_from stretch k (n + 1)) n m words ((if t then ok i else refuse v) >>= (λ j. ok (done next (set words j a) proceeded)))
          ≡ after stretch (run_from stretch k (n + 1)) n m (stored words a (if t then ok i else refuse v)) (if t then ok (done next (stored words a (if t then ok i else refuse v)) proceeded) else refuse v)
      by true = refl
      by false = refl

  accepted-cycle : (v : ℕ) (r : Registers) (pointers : List Pointer) (new : List Register) (next : List ℕ) →
      after stretch (run_from stretch k (n + 1)) n m next (accept v (done (with_parts m r pointers new) next proceeded)) ≡ cycled next new (accept v (moved r pointers))
  accepted-cycle v r pointers new next = by (eqb v 0)
    where
      by : (t : Bool) →
          after stretch (run_from stretch k (n + 1)) n m next (if t then ok (done (with_parts m r pointers new) next proceeded) else refuse v) ≡ cycled next new (if t then ok (moved r pointers) else refuse v)
      by true = refl
      by false = refl

  -- an instruction whose plan is known, with the registers after its references and the place of its indirect word
  by-plan : in_use m.depth ≡ m.depth → (new : List Register) (q : Pointer) (plan : Answer Plan) →
      after stretch (run_from stretch k (n + 1)) n m words (plan >>= resolve m (read_word m words) new q >>= commit m words)
      ≡ cycled (settled_words m.layout.lengths m.layout.rights bases words m.recent depth frame m.registers m.pointers plan) new
      (plan >>= settled m.layout.lengths m.layout.rights bases words m.recent depth frame m.registers m.pointers q)
  unfolding commit check written_of reference_of enter_of leave_of read_word
  by-plan u new q (refuse f) = refl
  by-plan u new q (ok halt) = refl
  by-plan u new q (ok (move a s w ps)) = refl
  by-plan u new q (ok (store p v)) =
      rw u (rw u at (stores verdict (index_of bases p.segment p.word) v (with_parts m on m.pointers new) ∙ accepted-cycle verdict on m.pointers new _))
    where
      verdict : ℕ
      verdict = verdict_of m.layout.lengths m.layout.rights m.registers.domain m.recent (in_use m.depth) frame access.Write p

      on : Registers
      on = moved_registers m.registers m.registers.a m.registers.segment (m.registers.word + 1)
  by-plan u new q (ok (enter p)) =
      rw u (rw u at (enters u p (frame_of (read_of m.layout.lengths m.layout.rights bases words m.registers.domain m.recent (in_use m.depth) frame) (get_or m.pointers 0 no_pointer) (get_or m.pointers 1 no_pointer) m.registers.domain (in_use m.depth) frame)))
  by-plan u new q (ok (leave p)) =
      rw u (rw u at (leaves u p q (leave_check m.layout.lengths m.layout.rights (in_use m.depth) frame (get_or m.pointers 1 no_pointer) p)))

  abbrev cycle_at : Answer Progress
  cycle_at = cycle_of m.layout.lengths m.layout.gates m.layout.rights m.layout.stacks bases words m.recent depth frame m.registers m.pointers

  abbrev words_at : List ℕ
  words_at = cycle_words m.layout.lengths m.layout.gates m.layout.rights m.layout.stacks bases words m.recent depth frame m.registers m.pointers

  abbrev fetched_at : Answer Instruction
  fetched_at = fetch_of m.layout.lengths m.layout.rights bases words m.registers.domain m.registers.segment m.registers.word >>= instruction_of

  -- the registers after its references
  abbrev new_at : List Register
  new_at = renewed_all m.recent depth frame (made_of (read_of m.layout.lengths m.layout.rights bases words m.registers.domain m.recent depth frame) m.pointers fetched_at)

  -- a run of at least one instruction, as its cycle tells
  pub run-cycled : in_use m.depth ≡ m.depth → run_from stretch (suc k) n m words ≡ cycled words_at new_at cycle_at
  unfolding run_from execute decide fetch read_word cycle_of cycle_words recent_after
  run-cycled u =
      by-plan u (recent_after m (read_word m words) fetched_at) (place_of m.pointers fetched_at)
      (plan_of m.layout.lengths m.layout.gates m.layout.rights m.layout.stacks m.depth m.registers m.pointers (fetch m words) (read_word m words)) ∙ rw u refl

module _ (stretch : Bool) (limit : ℕ) where
  -- a run is a local run and what resumes after it
  pub run-resumes : (k n : ℕ) → n + k ≡ limit → (m : Machine) → in_use m.depth ≡ m.depth → (words : List ℕ) → run_from stretch k n m words ≡ resume_local stretch limit m (local_at m k n words)
  unfolding run_from local_from cycle_recent
  run-resumes zero n e m u words = refl
  run-resumes (suc k) n e m u words =
      run-cycled stretch limit k n (omega arith) m words u
      ∙ by (run-resumes k (n + 1) (omega arith)) (cycle_at stretch limit k n (omega arith) m words) (words_at stretch limit k n (omega arith) m words) (new_at stretch limit k n (omega arith) m words)
    where
      by : ((m : Machine) → in_use m.depth ≡ m.depth → (words : List ℕ) → run_from stretch k (n + 1) m words ≡ resume_local stretch limit m (local_at m k (n + 1) words))
          → (t : Answer Progress) (next : List ℕ) (new : List Register) → cycled stretch limit k n (omega arith) m words next new t
          ≡ resume_local stretch limit m (after_cycle (λ r pointers v rs. local_at (with_parts m r pointers rs) k (n + 1) v) n m.registers m.pointers next (recent_by m.recent new t) t)
      by more (refuse f) next new = refl
      by more (ok ended) next new = refl
      by more (ok (moved r pointers)) next new = more (with_parts m r pointers new) u next
      by more (ok (entering p)) next new = refl
      by more (ok (leaving p q)) next new = refl
