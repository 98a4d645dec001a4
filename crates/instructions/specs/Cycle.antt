-- An instruction cycle, fetch and execute, as the loop makes it: everything but a crossing.
use Rattle.std.specs.Prelude.{ℕ, ◌+◌, List, ◌≡◌, set}
use Rattle.words.specs.Answer.{Answer, refuse, ok, ◌>>=◌}
use Rattle.words.specs.Refusal.{number}
use Rattle.words.specs.declared.pointer.Pointer.{Pointer}
use Rattle.state.specs.declared.record.Frame.{Frame}
use Rattle.state.specs.declared.record.Register.{Register}
use Rattle.state.specs.declared.record.Registers.{Registers}
use Rattle.references.specs.declared.flag.Access.TheVariants as access
use Rattle.references.specs.Reference.{verdict_of, accept}
use Rattle.instructions.specs.declared.cycle.Event.{Event}
use Rattle.instructions.specs.declared.cycle.Event.TheVariants as event
use Rattle.instructions.specs.declared.cycle.Cycle.{Cycle}
use Rattle.words.specs.InstructionWord.{instruction_of}
use Rattle.references.specs.Made.{renewed_all}
use Rattle.memory.specs.Reader.{Reader, read_of, fetch_of, written_of}
use Rattle.instructions.specs.Plan.{Plan, halt, move, store, enter, leave}
use Rattle.instructions.specs.Instruction.{plan_of}
use Rattle.instructions.specs.Made.{made_of, place_of}

-- how far an instruction came
pub data Progress : Type 0 where
  ended : Progress
  moved : Registers → List Pointer → Progress
  entering : Pointer → Progress
  -- a return, with the place of its indirect word
  leaving : Pointer → Pointer → Progress

-- what the code's answer stands for, over the pointers that the instruction found
abbrev pub event_answer : Registers → List Pointer → Event → Answer Progress
event_answer r pointers event.Moved = ok (moved r pointers)
event_answer r pointers (event.Pointed i p) = ok (moved r (set pointers i p))
event_answer r pointers event.Halted = ok ended
event_answer r pointers (event.Entering p) = ok (entering p)
event_answer r pointers (event.Leaving p q) = ok (leaving p q)
event_answer r pointers (event.Faulted refusal) = refuse (number refusal)

-- the same of a cycle's answer, with the registers in it
abbrev pub cycle_answer : List Pointer → Cycle → Answer Progress
cycle_answer pointers t = event_answer t.registers pointers t.event

-- the registers s after an event: those that came in, r, unless the instruction moved on
abbrev pub stays_by : Registers → Registers → Event → Type 0
stays_by r s event.Moved = Unit {0}
stays_by r s (event.Pointed i p) = Unit {0}
stays_by r s event.Halted = s ≡ r
stays_by r s (event.Entering p) = s ≡ r
stays_by r s (event.Leaving p q) = s ≡ r
stays_by r s (event.Faulted refusal) = s ≡ r

-- the same of a cycle's answer
abbrev pub Stays : Registers → Cycle → Type 0
Stays r t = stays_by r t.registers t.event

-- the registers with this A at this segment and word
abbrev pub moved_registers : Registers → ℕ → ℕ → ℕ → Registers
moved_registers r a segment word = record { a = a; word = word; segment = segment; domain = r.domain }

module _ (lengths rights bases words : List ℕ) (recent : List Register) (depth : ℕ) (frame : Frame) (r : Registers) (pointers : List Pointer) where
  -- a plan carried out, its store judged; q is the place of the instruction's indirect word
  abbrev pub settled : Pointer → Plan → Answer Progress
  settled q halt = ok ended
  settled q (move a segment word next) = ok (moved (moved_registers r a segment word) next)
  settled q (store p v) = accept (verdict_of lengths rights r.domain recent depth frame access.Write p) (moved (moved_registers r r.a r.segment (r.word + 1)) pointers)
  settled q (enter p) = ok (entering p)
  settled q (leave p) = ok (leaving p q)

  -- the words after a plan
  abbrev pub settled_words : Answer Plan → List ℕ
  settled_words (refuse n) = words
  settled_words (ok halt) = words
  settled_words (ok (move a segment word next)) = words
  settled_words (ok (store p v)) = written_of lengths rights bases words r.domain recent depth frame p v
  settled_words (ok (enter p)) = words
  settled_words (ok (leave p)) = words

-- the registers after an instruction: those after its references, where it moved on
abbrev pub recent_by : List Register → List Register → Answer Progress → List Register
recent_by recent next (refuse n) = recent
recent_by recent next (ok ended) = recent
recent_by recent next (ok (moved s ps)) = next
recent_by recent next (ok (entering p)) = recent
recent_by recent next (ok (leaving p q)) = recent

-- the instruction at the location, and the words and the registers after it
module _ (lengths gates rights stacks bases words : List ℕ) (recent : List Register) (depth : ℕ) (frame : Frame) (r : Registers) (pointers : List Pointer) where
  abbrev pub fetched : Answer ℕ
  fetched = fetch_of lengths rights bases words r.domain r.segment r.word

  abbrev pub reader : Reader
  reader = read_of lengths rights bases words r.domain recent depth frame

  abbrev pub planned : Answer Plan
  planned = plan_of lengths gates rights stacks depth r pointers fetched reader

  unfoldable pub cycle_of : Answer Progress
  cycle_of = planned >>= settled lengths rights bases words recent depth frame r pointers (place_of pointers (fetched >>= instruction_of))

  unfoldable pub cycle_words : List ℕ
  cycle_words = settled_words lengths rights bases words recent depth frame r pointers planned

  unfoldable pub cycle_recent : List Register
  cycle_recent = recent_by recent (renewed_all recent depth frame (made_of reader pointers (fetched >>= instruction_of))) cycle_of
