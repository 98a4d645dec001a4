-- Pointer words: bits 0-11 word number, 12-15 segment number, 16-30 zero, 31 the tag.
use Rattle.std.specs.Prelude.{ℕ, ◌+◌, ◌*◌, ◌%◌, ◌^◌, ◌==◌}
use Rattle.words.specs.Answer.{Answer, ok, ◌>>◌, require}
use Rattle.words.specs.Numbers.{bad_pointer}
use Rattle.words.specs.Bit.{bit}
use Rattle.words.specs.Field.{field}
use Rattle.words.specs.declared.pointer.Pointer.{Pointer}

-- the word that holds a pointer
unfoldable pub pointer_word : Pointer → ℕ
pointer_word p = bit p.tag * 2 ^ 31 + p.segment % 2 ^ 4 * 2 ^ 12 + p.word % 2 ^ 12

-- the pointer that a word holds
unfoldable pub pointer_of : ℕ → Answer Pointer
pointer_of w =
    require (field 16 15 w == 0) bad_pointer >>
    ok (record { word = field 0 12 w; segment = field 12 4 w; tag = (field 31 1 w == 1) })
