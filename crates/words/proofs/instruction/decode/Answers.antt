-- `words::instruction::decode` meets its contract.
use Rattle.std.proofs.Common.{◌<◌, refl, arith}
use borrow.Author.Tests.{lt-leb}
use Rattle.words.specs.InstructionWord.{instruction_of}
use Rattle.words.proofs.Masks.{run-mask}
use Rattle.words.proofs.instruction.decode.Goals as goal
use Rattle.words.proofs.instruction.decode.Goals.{then-opcode-lt5, else-opcode-lt5+else-opcode-lt7+then-opcode-lt12}

-- HALT
pub decode_under-requires : goal.decode_under-requires
decode_under-requires c = run-mask _ 0 1 refl _ (omega arith) (omega arith)

-- LIT
pub decode_under-requires-in-12 : goal.decode_under-requires-in-12
decode_under-requires-in-12 c = run-mask _ 12 1 refl _ (omega arith) (omega arith)

-- EPP and SPP
pub decode_under-requires-in-5 : goal.decode_under-requires-in-5
decode_under-requires-in-5 c = run-mask _ 5 2 refl _ (omega arith) (omega arith)

-- LOAD to SUB, and JUMP to JM
pub decode_under-requires-in-1-to-4 : goal.decode_under-requires-in-1-to-4
decode_under-requires-in-1-to-4 c =
    elim c.in-1-to-4-1.branch [
      | then-opcode-lt5 w ↦ run-mask _ 1 4 refl _ (omega arith) (omega arith)
      | else-opcode-lt5+else-opcode-lt7+then-opcode-lt12 w ↦ run-mask _ 7 5 refl _ (omega arith) (omega arith)
    ]

-- none of the thirteen
pub returns-in_default : goal.returns-in_default
unfolding instruction_of
returns-in_default c =
    let b = c in
    let above : 12 < b.bits-opcode.result = omega arith in
    simp (← b.bits-opcode.ensures.0, lt-leb _ _ above)
