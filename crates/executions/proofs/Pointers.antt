-- The pointers that a word, an offset and an instruction give are in range.
use Prim.Native.Nat.{ℕ, ◌+◌, ◌<◌, ◌≤◌}
use native.Mathlib.Omega.{arith}
use mathlib.Core.List.{List}
use borrow.Author.Tests.{leb-true}
use lib.Dec.{eqb, leb}
use lib.IntN.{ℤ, pos, negsuc, ◌+ℤ◌}
use lib.ListN.{get_or}
use Rattle.words.specs.Answer.{refuse, ok, ◌>>◌, require}
use Rattle.words.specs.Field.{field, common}
use Rattle.words.specs.Offset.{in_range, displaced_of}
use Rattle.words.specs.PointerWord.{pointer_of}
use Rattle.words.specs.InstructionWord.{instruction_of, masks}
use Rattle.words.specs.declared.pointer.Pointer.{Pointer}
use Rattle.words.specs.declared.instruction.Instruction.{Instruction}
use Rattle.words.proofs.Fields.{field_lt}
use Rattle.state.specs.Record.{no_pointer}
use Rattle.soundness.proofs.Facts.{PointerSound, PointersSound}
use Rattle.memory.specs.Reader.{Reader}
use Rattle.addressing.specs.Effective.{displaced_by, through_of, effective_of}
use Rattle.executions.proofs.Says.{Says, says-bind, says_then, says-skip, says-require, says_if}

-- the pointer in a word
pub word-pointer : (w : ℕ) → Says PointerSound (pointer_of w)
unfolding pointer_of
word-pointer w =
    says-require PointerSound (eqb (field 16 15 w) 0) 26 _
    (λ _. record { segment = omega (arith, field_lt 12 4 w); word = omega (arith, field_lt 0 12 w) })

-- the base register of an instruction is one of eight
abbrev pub BaseLt : Instruction → Type 0
BaseLt i = i.base < 8

pub base-lt : (w : ℕ) → Says BaseLt (instruction_of w)
unfolding instruction_of
base-lt w =
    says-skip BaseLt (require (leb (field 24 8 w) 12) 27 >> require (eqb (common 32 w (get_or masks (field 24 8 w) 0)) 0) 27) _ (field_lt 12 3 w)

range-most : (z : ℤ) → Says (λ n. n ≤ 4095) (in_range z)
range-most (pos n) = says_if (λ n. n ≤ 4095) (leb n 4095) (ok n) (refuse 23) (leb-true n 4095) (λ _. tt)
range-most (negsuc n) = tt

-- a pointer moved by an offset
pub moved-sound : (p : Pointer) (z : ℤ) → PointerSound p → Says PointerSound (displaced_by p z)
unfolding displaced_by displaced_of
moved-sound p z s = says-bind (λ n. n ≤ 4095) PointerSound (in_range (pos p.word +ℤ z)) _ (range-most (pos p.word +ℤ z)) (λ n h. record { segment = s.segment; word = h })

-- a pointer moved up by k words
pub moved-most : (p : Pointer) (k : ℕ) → Says (λ q. p.word + k ≤ 4095) (displaced_by p (pos k))
unfolding displaced_by displaced_of
moved-most p k =
    says-bind (λ n. p.word + k ≤ 4095) (λ q. p.word + k ≤ 4095) (in_range (pos (p.word + k))) _
    (says_if (λ n. p.word + k ≤ 4095) (leb (p.word + k) 4095) (ok (p.word + k)) (refuse 23) (leb-true _ _) (λ _. tt)) (λ n h. h)

-- the pointer read at a pointer
through-sound : (read : Reader) (p : Pointer) → Says PointerSound (through_of read p)
unfolding through_of
through-sound read p =
    says_then PointerSound (read p) _
    (λ w. says-bind PointerSound PointerSound (pointer_of w) _ (word-pointer w) (λ q s. record { segment = s.segment; word = s.word }))

pub effective-sound : (read : Reader) (pointers : List Pointer) (i : Instruction) → PointersSound pointers → i.base < 8 → Says PointerSound (effective_of read pointers i)
unfolding effective_of
effective-sound read pointers i s h =
    says-bind PointerSound PointerSound (displaced_by (get_or pointers i.base no_pointer) i.offset) _
    (moved-sound (get_or pointers i.base no_pointer) i.offset (s i.base h))
    (λ p sp. says_if PointerSound i.indirect (through_of read p) (ok p) (λ _. through-sound read p) (λ _. sp))
