-- Definitions that only contracts of private functions cite.
use Rattle.std.specs.Prelude.{ℕ, ◌+◌, Bool, true, false, not, List, eqb, ◌≡◌, if◌then◌else◌}
use Rattle.words.specs.Answer.{Answer, ok, ◌>>=◌}
use Rattle.words.specs.declared.pointer.Pointer.{Pointer}
use Rattle.state.specs.declared.record.Registers.{Registers}
use Rattle.pointer_registers.specs.Stack.{with_base}
use Rattle.instructions.specs.Plan.{Plan}
use Rattle.state.specs.declared.record.Frame.{Frame}
use Rattle.state.specs.declared.record.Register.{Register}
use Rattle.instructions.specs.declared.cycle.Cycle.{Cycle}
use Rattle.instructions.specs.Instruction.{operate_of, JUMP, RET, taken_of}
use Rattle.instructions.specs.Cycle.{Progress, moved, entering, cycle_answer, moved_registers, settled, recent_by}

-- whether an opcode jumps to an effective pointer of this tag
unfoldable pub jumps_of : ℕ → ℕ → Bool → Bool
jumps_of opcode a tag = if eqb opcode JUMP then true else (if eqb opcode RET then not tag else taken_of opcode a)

-- what a cycle's answer stands for, whatever the pointers are
abbrev pub Cycles : Cycle → (List Pointer → Answer Progress) → Type 0
Cycles t f = (pointers : List Pointer) → cycle_answer pointers t ≡ f pointers

-- LOAD, ADD or SUB with the word read
abbrev pub loaded : Registers → List Pointer → ℕ → Answer ℕ → Answer Progress
loaded r pointers opcode answer = answer >>= (λ w. ok (moved (moved_registers r (operate_of opcode r.a w) r.segment (r.word + 1)) pointers))

-- a call whose checks are made
abbrev pub called : Registers → List Pointer → ℕ → Pointer → Answer Bool → Answer Progress
called r pointers stack p way =
    way >>= (λ inside. if inside then ok (moved (moved_registers r r.a p.segment p.word) (with_base pointers stack)) else ok (entering p))

-- a plan carried out, where there is one
abbrev pub settled_answer : List ℕ → List ℕ → List ℕ → List ℕ → List Register → ℕ → Frame → Registers → List Pointer → Pointer → Answer Plan → Answer Progress
settled_answer lengths rights bases words recent depth frame r pointers q plan = plan >>= settled lengths rights bases words recent depth frame r pointers q

-- an untagged effective pointer p had an untagged indirect word, at q
abbrev pub Reached : Pointer → Pointer → Type 0
Reached q p = p.tag ≡ false → q.tag ≡ false

-- the registers after a cycle: those after its references where it moved on, whatever the pointers are
abbrev pub Renews : Cycle → List Register → List Register → List Register → Type 0
Renews t after recent next = (pointers : List Pointer) → after ≡ recent_by recent next (cycle_answer pointers t)
