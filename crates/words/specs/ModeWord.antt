-- Mode words: bits 0-12 length 1-4,096, bit 30 read, bit 31 write, others zero, at least one flag.
use Rattle.std.specs.Prelude.{ℕ, ◌+◌, ◌==◌, nat_le}
use Rattle.words.specs.Answer.{Answer, ok, ◌>>◌, require}
use Rattle.words.specs.Numbers.{bad_argument}
use Rattle.words.specs.Field.{field}
use Rattle.words.specs.declared.mode.Mode.{Mode}

-- the mode that a word holds, for an argument that starts at a word number; the argument ends at word 4,095 at the latest
unfoldable pub mode_of : ℕ → ℕ → Answer Mode
mode_of w start =
    require (nat_le 1 (field 0 13 w)) bad_argument >>
    require (nat_le (field 0 13 w) 4096) bad_argument >>
    require (field 13 17 w == 0) bad_argument >>
    require (nat_le 1 (field 30 2 w)) bad_argument >>
    require (nat_le (start + field 0 13 w) 4096) bad_argument >>
    ok (record { length = field 0 13 w; read = (field 30 1 w == 1); write = (field 31 1 w == 1) })
