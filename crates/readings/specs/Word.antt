-- Words taken apart: the borders of fields and masks.
use Rattle.std.specs.Prelude.{ℕ, zero, suc, ◌+◌, ◌*◌, ◌-◌, ◌^◌, List, [], ◌∷◌, ◌++◌, pos, negsuc}
use Rattle.words.specs.Answer.{refuse, ok}
use Rattle.readings.specs.Question.{Row, pointer, instruction, displace, ◌gives◌}

-- a row for each of the n bits from bit low up, as a number
abbrev pub each_bit : ℕ → ℕ → (ℕ → Row) → List Row
each_bit low zero f = []
each_bit low (suc n) f = f (2 ^ low) ∷ each_bit (low + 1) n f

-- an opcode whose mask is the bits from bit low to bit 23: with all bits below on it is decoded, with any bit of the mask refused
abbrev masked_from : ℕ → ℕ → List ℕ → List Row
masked_from low opcode fields =
    (instruction (opcode * 2 ^ 24 + (2 ^ low - 1)) gives ok (opcode ∷ fields)) ∷
    each_bit low (24 - low) (λ b. instruction (opcode * 2 ^ 24 + b) gives refuse 27)

-- register, base, indirect, offset with all bits on, the offset being minus 1 modulo 2^32
abbrev addressed : ℕ → List ℕ
addressed register = register ∷ 7 ∷ 1 ∷ 4294967295 ∷ []

-- each field of a pointer word and of an instruction word, each opcode's mask, and the sums at the ends of 0-4,095
abbrev pub word_rows : List Row
word_rows =
    (pointer 0x8000FFFF gives ok (1 ∷ 15 ∷ 4095 ∷ [])) ∷
    each_bit 16 15 (λ b. pointer b gives refuse 26) ++
    masked_from 0 0 (0 ∷ 0 ∷ 0 ∷ 0 ∷ []) ++
    masked_from 16 1 (addressed 0) ++
    masked_from 16 2 (addressed 0) ++
    masked_from 16 3 (addressed 0) ++
    masked_from 16 4 (addressed 0) ++
    masked_from 19 5 (addressed 7) ++
    masked_from 19 6 (addressed 7) ++
    masked_from 16 7 (addressed 0) ++
    masked_from 16 8 (addressed 0) ++
    masked_from 16 9 (addressed 0) ++
    masked_from 16 10 (addressed 0) ++
    masked_from 16 11 (addressed 0) ++
    masked_from 12 12 (0 ∷ 0 ∷ 0 ∷ 4294967295 ∷ []) ++
    (instruction 0x0D000000 gives refuse 27) ∷
    (instruction 0xFF000000 gives refuse 27) ∷
    each_bit 28 4 (λ b. instruction (0x01000000 + b) gives refuse 27) ++
    (instruction 0x010007FF gives ok (1 ∷ 0 ∷ 0 ∷ 0 ∷ 2047 ∷ [])) ∷
    (instruction 0x01000800 gives ok (1 ∷ 0 ∷ 0 ∷ 0 ∷ 4294965248 ∷ [])) ∷
    (displace 4094 (pos 1) gives ok (4095 ∷ [])) ∷
    (displace 1 (negsuc 0) gives ok (0 ∷ [])) ∷ []
