-- The checks of a machine's references.
use Rattle.std.specs.Prelude.{ℕ}
use Rattle.words.specs.Answer.{Answer}
use Rattle.words.specs.declared.pointer.Pointer.{Pointer}
use Rattle.state.specs.declared.record.Machine.{Machine}
use Rattle.state.specs.Record.{in_use, live_frame}
use Rattle.state.specs.Bases.{bases_of}
use Rattle.references.specs.declared.flag.Flag.{Flag}
use Rattle.references.specs.declared.flag.Access.{Access}
use Rattle.references.specs.Reference.{locate_of, reference_of}

-- the static check of a domain, giving the index of the word in the memory
unfoldable pub static_check : Machine → ℕ → Flag → ℕ → ℕ → Answer ℕ
static_check m domain flag segment word =
    locate_of m.layout.lengths m.layout.rights (bases_of m.layout.lengths) domain flag segment word

-- the check of a reference by the executing domain, giving the index of the word in the memory
unfoldable pub check : Machine → Access → Pointer → Answer ℕ
check m access p =
    reference_of m.layout.lengths m.layout.rights (bases_of m.layout.lengths) m.registers.domain m.recent (in_use m.depth) (live_frame m.depth m.frames) access p
