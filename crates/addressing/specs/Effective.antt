-- Effective pointers.
use Rattle.std.specs.Prelude.{ℕ, ◌||◌, List, ℤ, get_or, if◌then◌else◌}
use Rattle.words.specs.Answer.{Answer, refuse, ok, ◌>>=◌}
use Rattle.words.specs.Offset.{displaced_of}
use Rattle.words.specs.PointerWord.{pointer_of}
use Rattle.words.specs.declared.pointer.Pointer.{Pointer}
use Rattle.words.specs.declared.instruction.Instruction.{Instruction}
use Rattle.state.specs.Record.{no_pointer}
use Rattle.memory.specs.Reader.{Reader}

-- a pointer with another word number
abbrev pub at_word : Pointer → ℕ → Pointer
at_word p word = record { word = word; segment = p.segment; tag = p.tag }

-- a pointer moved by an offset, tag and segment kept
unfoldable pub displaced_by : Pointer → ℤ → Answer Pointer
displaced_by p offset = displaced_of p.word offset >>= (λ word. ok (at_word p word))

-- a place that may not be there: then an untagged pointer, through which no live reference goes
abbrev pub placed : Answer Pointer → Pointer
placed (refuse n) = no_pointer
placed (ok p) = p

-- the pointer in the word at a pointer, its tag set on if the first was on
unfoldable pub through_of : Reader → Pointer → Answer Pointer
through_of read p = read p >>= (λ w. pointer_of w >>= (λ q. ok (record { word = q.word; segment = q.segment; tag = p.tag || q.tag })))

-- the base register's pointer plus the offset; if indirect, the pointer that is read there, one level
unfoldable pub effective_of : Reader → List Pointer → Instruction → Answer Pointer
effective_of read pointers i =
    displaced_by (get_or pointers i.base no_pointer) i.offset >>= (λ p. if i.indirect then through_of read p else ok p)
