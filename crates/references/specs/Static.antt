-- The static check.
use Rattle.std.specs.Prelude.{ℕ, ◌+◌, ◌*◌, Bool, ◌&&◌, List, ltb, get_or, if◌then◌else◌}
use Rattle.words.specs.Numbers.{no_word, flag_missing}
use Rattle.references.specs.declared.flag.Flag.{Flag}
use Rattle.references.specs.Flag.{has}

-- the segment and word exist: of the sixteen rows, those of segments that do not exist have no words
unfoldable pub exists : List ℕ → ℕ → ℕ → Bool
exists lengths segment word = ltb segment 16 && ltb word (get_or lengths segment 0)

-- the rights of a domain on a segment
unfoldable pub rights_of : List ℕ → ℕ → ℕ → ℕ
rights_of rights domain segment = if ltb domain 8 then get_or rights (domain * 16 + segment) 0 else 0

-- 0 where the word exists and the domain has the flag, else the number of the fault
unfoldable pub static_of : List ℕ → List ℕ → ℕ → Flag → ℕ → ℕ → ℕ
static_of lengths rights domain flag segment word =
    if exists lengths segment word then (if has (rights_of rights domain segment) flag then 0 else flag_missing) else no_word
