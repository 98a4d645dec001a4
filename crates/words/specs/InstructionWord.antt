-- Instruction words: bits 0-11 offset, 12-14 base register, 15 indirect, 16-18 register operand, 19-23 zero, 24-31 opcode.
use Rattle.std.specs.Prelude.{ℕ, List, [], ◌∷◌, ◌==◌, nat_le, slice_index}
use Rattle.words.specs.Answer.{Answer, ok, ◌>>◌, require}
use Rattle.words.specs.Numbers.{bad_instruction}
use Rattle.words.specs.Field.{field, common}
use Rattle.words.specs.Offset.{signed_of}
use Rattle.words.specs.declared.instruction.Instruction.{Instruction}

-- each opcode's zero mask, HALT LOAD STORE ADD SUB EPP SPP JUMP CALL RET JZ JM LIT
abbrev pub masks : List ℕ
masks =
    0x00FFFFFF ∷ 0x00FF0000 ∷ 0x00FF0000 ∷ 0x00FF0000 ∷ 0x00FF0000 ∷ 0x00F80000 ∷ 0x00F80000 ∷
    0x00FF0000 ∷ 0x00FF0000 ∷ 0x00FF0000 ∷ 0x00FF0000 ∷ 0x00FF0000 ∷ 0x00FFF000 ∷ []

-- the instruction that a word holds
unfoldable pub instruction_of : ℕ → Answer Instruction
instruction_of w =
    require (nat_le (field 24 8 w) 12) bad_instruction >>
    require (common 32 w (slice_index masks (field 24 8 w)) == 0) bad_instruction >>
    ok (record {
      offset = signed_of (field 0 12 w);
      opcode = field 24 8 w;
      register = field 16 3 w;
      base = field 12 3 w;
      indirect = (field 15 1 w == 1);
    })
