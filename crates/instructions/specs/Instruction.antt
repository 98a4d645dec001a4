-- The thirteen instructions.
use Rattle.std.specs.Prelude.{ℕ, ◌+◌, ◌^◌, Bool, false, ◌||◌, List, eqb, leb, get_or, set, if◌then◌else◌}
use Rattle.words.specs.Answer.{Answer, ok, ◌>>=◌}
use Rattle.words.specs.Arithmetic.{sum_of, difference_of}
use Rattle.words.specs.Offset.{literal_of}
use Rattle.words.specs.PointerWord.{pointer_word}
use Rattle.words.specs.InstructionWord.{instruction_of}
use Rattle.words.specs.declared.pointer.Pointer.{Pointer}
use Rattle.words.specs.declared.instruction.Instruction.{Instruction}
use Rattle.state.specs.declared.record.Registers.{Registers}
use Rattle.state.specs.Record.{no_pointer}
use Rattle.references.specs.Reference.{accept}
use Rattle.pointer_registers.specs.Stack.{with_base, stack_of}
use Rattle.transfers.specs.Transfer.{jump_check, call_way}
use Rattle.memory.specs.Reader.{Reader}
use Rattle.addressing.specs.Effective.{effective_of}
use Rattle.instructions.specs.Plan.{Plan, halt, move, store, enter, leave}

-- the opcodes
abbrev pub HALT : ℕ
HALT = 0

abbrev pub LOAD : ℕ
LOAD = 1

abbrev pub STORE : ℕ
STORE = 2

abbrev pub ADD : ℕ
ADD = 3

abbrev pub SUB : ℕ
SUB = 4

abbrev pub EPP : ℕ
EPP = 5

abbrev pub SPP : ℕ
SPP = 6

abbrev pub JUMP : ℕ
JUMP = 7

abbrev pub CALL : ℕ
CALL = 8

abbrev pub RET : ℕ
RET = 9

abbrev pub JZ : ℕ
JZ = 10

abbrev pub JM : ℕ
JM = 11

abbrev pub LIT : ℕ
LIT = 12

-- what LOAD, ADD and SUB make of A and the word there
abbrev pub operate_of : ℕ → ℕ → ℕ → ℕ
operate_of opcode a w = if eqb opcode LOAD then w else (if eqb opcode ADD then sum_of a w else difference_of a w)

-- the opcodes that read into A, and those that store
unfoldable pub is_load : ℕ → Bool
is_load opcode = eqb opcode LOAD || (eqb opcode ADD || eqb opcode SUB)

unfoldable pub is_store : ℕ → Bool
is_store opcode = eqb opcode STORE || eqb opcode SPP

-- the word that STORE stores, or SPP
unfoldable pub value_of : ℕ → ℕ → List Pointer → ℕ → ℕ
value_of opcode a pointers register = if eqb opcode STORE then a else pointer_word (get_or pointers register no_pointer)

-- whether JZ jumps, or JM
unfoldable pub taken_of : ℕ → ℕ → Bool
taken_of opcode a = if eqb opcode JZ then eqb a 0 else (if eqb opcode JM then leb (2 ^ 31) a else false)

-- what the instructions know of the configuration and the frames
module _ (lengths gates rights stacks : List ℕ) (depth : ℕ) (r : Registers) (pointers : List Pointer) where
  -- on to the next word with another A
  abbrev pub next : ℕ → Plan
  next a = move a r.segment (r.word + 1) pointers

  -- JUMP
  unfoldable pub jump_of : Pointer → Answer Plan
  jump_of p = accept (jump_check lengths rights r.domain p) (move r.a p.segment p.word pointers)

  -- CALL: inside the domain b is set, through a gate a crossing follows
  unfoldable pub call_of : Pointer → Answer Plan
  call_of p =
      call_way lengths gates rights r.domain depth p >>= (λ inside.
      if inside then ok (move r.a p.segment p.word (with_base pointers (stack_of stacks r.domain))) else ok (enter p))

  -- RET: untagged it is JUMP
  unfoldable pub return_of : Pointer → Answer Plan
  return_of p = if p.tag then ok (leave p) else jump_of p

  -- LOAD, ADD and SUB: A from the word at the effective pointer
  unfoldable pub load_of : Reader → ℕ → Pointer → Answer Plan
  load_of read opcode p = read p >>= (λ w. ok (next (operate_of opcode r.a w)))

  -- JZ and JM: JUMP if the test holds
  unfoldable pub branch_of : Bool → Pointer → Answer Plan
  branch_of taken p = if taken then jump_of p else ok (next r.a)

  -- the effect of an opcode at an effective pointer
  unfoldable pub effect_of : Reader → ℕ → ℕ → Pointer → Answer Plan
  effect_of read opcode register p =
      if is_load opcode then load_of read opcode p else (
      if is_store opcode then ok (store p (value_of opcode r.a pointers register)) else (
      if eqb opcode EPP then ok (move r.a r.segment (r.word + 1) (set pointers register p)) else (
      if eqb opcode JUMP then jump_of p else (
      if eqb opcode CALL then call_of p else (
      if eqb opcode RET then return_of p else
      branch_of (taken_of opcode r.a) p)))))

  -- HALT and LIT form no effective pointer
  unfoldable pub execute_of : Reader → Instruction → Answer Plan
  execute_of read i =
      if eqb i.opcode HALT then ok halt else (
      if eqb i.opcode LIT then ok (next (literal_of i.offset)) else (
      effective_of read pointers i >>= (λ p. effect_of read i.opcode i.register p)))

  -- the fetched word as an instruction, then its execution
  unfoldable pub plan_of : Answer ℕ → Reader → Answer Plan
  plan_of fetched read = fetched >>= (λ w. instruction_of w >>= (λ i. execute_of read i))
