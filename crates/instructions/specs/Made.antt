-- The references of a completed instruction, in order.
use Rattle.std.specs.Prelude.{ℕ, ◌||◌, List, [], ◌∷◌, eqb, get_or, if◌then◌else◌}
use Rattle.words.specs.Answer.{Answer, refuse, ok}
use Rattle.words.specs.declared.pointer.Pointer.{Pointer}
use Rattle.words.specs.declared.instruction.Instruction.{Instruction}
use Rattle.state.specs.Record.{no_pointer}
use Rattle.references.specs.Made.{MadeReference, made_read, made_write}
use Rattle.memory.specs.Reader.{Reader}
use Rattle.addressing.specs.Effective.{displaced_by, placed, effective_of}
use Rattle.instructions.specs.Instruction.{HALT, LIT, is_load, is_store}

-- the place of an instruction's indirect word; an untagged one where there is none
unfoldable pub indirect_place : List Pointer → Instruction → Pointer
indirect_place pointers i = if i.indirect then placed (displaced_by (get_or pointers i.base no_pointer) i.offset) else no_pointer

-- the word at the effective pointer, read or stored
abbrev pub operand_made : ℕ → Pointer → List MadeReference
operand_made opcode p = if is_load opcode then made_read p ∷ [] else (if is_store opcode then made_write p ∷ [] else [])

-- those of an instruction with the effective pointer p: its indirect word, then its operand
unfoldable pub made_at : List Pointer → Instruction → Pointer → List MadeReference
made_at pointers i p = made_read (indirect_place pointers i) ∷ operand_made i.opcode p

abbrev pub made_from : List Pointer → Instruction → Answer Pointer → List MadeReference
made_from pointers i (refuse n) = []
made_from pointers i (ok p) = made_at pointers i p

-- those of an instruction; HALT and LIT form no effective pointer
unfoldable pub made_by : Reader → List Pointer → Instruction → List MadeReference
made_by read pointers i = if eqb i.opcode HALT || eqb i.opcode LIT then [] else made_from pointers i (effective_of read pointers i)

-- those of a fetched instruction, and the place of its indirect word
abbrev pub made_of : Reader → List Pointer → Answer Instruction → List MadeReference
made_of read pointers (refuse n) = []
made_of read pointers (ok i) = made_by read pointers i

abbrev pub place_of : List Pointer → Answer Instruction → Pointer
place_of pointers (refuse n) = no_pointer
place_of pointers (ok i) = indirect_place pointers i
