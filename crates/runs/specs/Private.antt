-- Definitions that only contracts of private functions cite.
use Rattle.std.specs.Prelude.{ℕ, ◌+◌, ◌-◌, ◌<◌, List, [], ◌∷◌, eqb, pos, get_or, if◌then◌else◌}
use Rattle.words.specs.Answer.{Answer, refuse, ok}
use Rattle.words.specs.declared.pointer.Pointer.{Pointer}
use Rattle.state.specs.declared.record.Frame.{Frame}
use Rattle.state.specs.declared.record.Register.{Register}
use Rattle.state.specs.declared.record.Registers.{Registers}
use Rattle.state.specs.Record.{no_pointer}
use Rattle.instructions.specs.Stages.{Stage}
use Rattle.instructions.specs.Stages as stage
use Rattle.references.specs.Made.{MadeReference, made_read}
use Rattle.memory.specs.Reader.{read_of}
use Rattle.addressing.specs.Effective.{displaced_by, placed}
use Rattle.arguments.specs.ArgumentList.{frame_of}
use Rattle.crossings.specs.Crossing.{leave_check, called_recent, left_recent}
use Rattle.runs.specs.declared.resume.Resumption.{Resumption}
use Rattle.runs.specs.declared.resume.Resumption.TheVariants as resumption
use Rattle.runs.specs.Run.{Ending, halted, spent, faulted, end_answer}
use Rattle.crossings.specs.Parts.{Changes, enter_parts, leave_parts}

-- what a run comes to after a local run: it ends; or it goes on from a crossing, with the count, the row of its frame, the frames in use after it
pub data Resumed : Type 0 where
  ends : Registers → List Pointer → ℕ → Ending → Resumed
  goes : ℕ → ℕ → ℕ → Changes → Resumed

-- what the code's resumption stands for
abbrev pub resume_answer : Resumption → Resumed
resume_answer (resumption.Ends r pointers n e) = ends r pointers n (end_answer e)
resume_answer (resumption.Goes n row depth c) = goes n row depth (record { frame = c.frame; pointers = c.pointers; registers = c.registers })

-- what may be counted after n instructions: one that is completed has a number of 16 bits
abbrev pub Countable : ℕ → Stage → Type 0
Countable n stage.Moved = Unit {0}
Countable n (stage.Pointed i p) = Unit {0}
Countable n stage.Halted = n < 65535
Countable n (stage.Faulted f) = Unit {0}
Countable n (stage.Entering p) = n < 65535
Countable n (stage.Leaving p q) = n < 65535

-- after a crossing's answer; one that faults is not counted
abbrev pub resume_after : Registers → List Pointer → ℕ → ℕ → ℕ → Answer Changes → Resumed
resume_after r pointers n row depth (refuse f) = ends r pointers n (faulted f)
resume_after r pointers n row depth (ok changes) = goes (n + 1) row depth changes

-- after n instructions and a local run that pauses at an event; where that is no pause, the limit is reached
abbrev pub resume_of : List ℕ → List ℕ → List ℕ → List ℕ → List ℕ → List ℕ → List Register → ℕ → Frame → Registers → List Pointer → ℕ → Stage → Resumed
resume_of lengths rights bases gatedomains stacks words recent depth frame r pointers n stage.Moved = ends r pointers n spent
resume_of lengths rights bases gatedomains stacks words recent depth frame r pointers n (stage.Pointed i p) = ends r pointers n spent
resume_of lengths rights bases gatedomains stacks words recent depth frame r pointers n stage.Halted = ends r pointers (n + 1) halted
resume_of lengths rights bases gatedomains stacks words recent depth frame r pointers n (stage.Faulted f) = ends r pointers n (faulted f)
resume_of lengths rights bases gatedomains stacks words recent depth frame r pointers n (stage.Entering p) =
    resume_after r pointers n depth (depth + 1)
    (enter_parts gatedomains stacks r pointers p
    (frame_of (read_of lengths rights bases words r.domain recent depth frame) (get_or pointers 0 no_pointer) (get_or pointers 1 no_pointer) r.domain depth frame))
resume_of lengths rights bases gatedomains stacks words recent depth frame r pointers n (stage.Leaving p q) =
    resume_after r pointers n (depth - 1) (depth - 1) (leave_parts stacks r pointers p frame (leave_check lengths rights depth frame (get_or pointers 1 no_pointer) p))

-- the registers after the crossing at an event, with the frame that a call made
abbrev pub crossed_recent : List Register → ℕ → Frame → List Pointer → Frame → Stage → List Register
crossed_recent recent depth frame pointers made stage.Moved = recent
crossed_recent recent depth frame pointers made (stage.Pointed i p) = recent
crossed_recent recent depth frame pointers made stage.Halted = recent
crossed_recent recent depth frame pointers made (stage.Faulted n) = recent
crossed_recent recent depth frame pointers made (stage.Entering p) = called_recent recent depth frame (get_or pointers 0 no_pointer) made
crossed_recent recent depth frame pointers made (stage.Leaving p q) = left_recent recent depth frame q

-- the reference to word i of the list at a
abbrev pub word_made : Pointer → ℕ → List MadeReference
word_made a i = if eqb i 2 then [] else (made_read (placed (displaced_by a (pos i))) ∷ [])
