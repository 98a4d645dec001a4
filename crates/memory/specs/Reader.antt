-- Readers: the words that a domain gets, each after its check.
use Rattle.std.specs.Prelude.{ℕ, List, get_or, set}
use Rattle.words.specs.Answer.{Answer, refuse, ok, ◌>>=◌}
use Rattle.words.specs.declared.pointer.Pointer.{Pointer}
use Rattle.state.specs.declared.record.Frame.{Frame}
use Rattle.state.specs.declared.record.Register.{Register}
use Rattle.state.specs.declared.record.Machine.{Machine}
use Rattle.state.specs.Bases.{bases_of}
use Rattle.state.specs.Record.{in_use, live_frame}
use Rattle.references.specs.declared.flag.Flag.TheVariants as flag
use Rattle.references.specs.declared.flag.Access.TheVariants as access
use Rattle.references.specs.Reference.{locate_of, reference_of}

-- the word at a pointer, or the number of the fault
abbrev pub Reader : Type 0
Reader = Pointer → Answer ℕ

-- a word read under a pointer's tag
unfoldable pub read_of : List ℕ → List ℕ → List ℕ → List ℕ → ℕ → List Register → ℕ → Frame → Reader
read_of lengths rights bases words domain recent depth frame p =
    reference_of lengths rights bases domain recent depth frame access.Read p >>= (λ i. ok (get_or words i 0))

-- a word fetched as an instruction: static, E
unfoldable pub fetch_of : List ℕ → List ℕ → List ℕ → List ℕ → ℕ → ℕ → ℕ → Answer ℕ
fetch_of lengths rights bases words domain segment word =
    locate_of lengths rights bases domain flag.Execute segment word >>= (λ i. ok (get_or words i 0))

-- what a machine reads, and what it fetches at its location
unfoldable pub read_word : Machine → List ℕ → Reader
read_word m words =
    read_of m.layout.lengths m.layout.rights (bases_of m.layout.lengths) words m.registers.domain m.recent (in_use m.depth) (live_frame m.depth m.frames)

unfoldable pub fetch : Machine → List ℕ → Answer ℕ
fetch m words =
    fetch_of m.layout.lengths m.layout.rights (bases_of m.layout.lengths) words m.registers.domain m.registers.segment m.registers.word

-- the words after a check's answer: a value stored at the index
abbrev pub stored : List ℕ → ℕ → Answer ℕ → List ℕ
stored words value (refuse n) = words
stored words value (ok i) = set words i value

-- a word stored under a pointer's tag, where the check passes
unfoldable pub written_of : List ℕ → List ℕ → List ℕ → List ℕ → ℕ → List Register → ℕ → Frame → Pointer → ℕ → List ℕ
written_of lengths rights bases words domain recent depth frame p value =
    stored words value (reference_of lengths rights bases domain recent depth frame access.Write p)
