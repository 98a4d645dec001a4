-- What the executing domain may see and could write, by segment and word number.
use Rattle.std.specs.Prelude.{ℕ, Bool, ◌||◌, List, eqb, get_or}
use Rattle.state.specs.declared.record.Machine.{Machine}
use Rattle.state.specs.Record.{in_use, live_frame}
use Rattle.state.specs.Bases.{bases_of}
use Rattle.references.specs.declared.flag.Flag.{Flag}
use Rattle.references.specs.declared.flag.Flag.TheVariants as flag
use Rattle.references.specs.declared.flag.Access.{Access}
use Rattle.references.specs.declared.flag.Access.TheVariants as access
use Rattle.references.specs.Static.{exists, static_of}
use Rattle.references.specs.Live.{live_of}
use Rattle.references.specs.Reference.{index_of}

-- the executing domain passes the static check
abbrev pub by_static : Machine → Flag → ℕ → ℕ → Bool
by_static m flag segment word = eqb (static_of m.layout.lengths m.layout.rights m.registers.domain flag segment word) 0

-- the live frame passes the live check
abbrev pub by_live : Machine → Access → ℕ → ℕ → Bool
by_live m access segment word = eqb (live_of m.layout.lengths m.layout.rights (in_use m.depth) (live_frame m.depth m.frames) access segment word) 0

-- the executing domain may see a word that it may execute, or read by either check
unfoldable pub may_see : Machine → ℕ → ℕ → Bool
may_see m segment word = by_static m flag.Execute segment word || (by_static m flag.Read segment word || by_live m access.Read segment word)

-- it could write a word where either check passes W
unfoldable pub could_write : Machine → ℕ → ℕ → Bool
could_write m segment word = by_static m flag.Write segment word || by_live m access.Write segment word

-- the segment and word exist
abbrev pub existing : Machine → ℕ → ℕ → Bool
existing m segment word = exists m.layout.lengths segment word

-- where a word lies in a memory, and what the memory holds there
abbrev pub place : Machine → ℕ → ℕ → ℕ
place m segment word = index_of (bases_of m.layout.lengths) segment word

abbrev pub word_at : Machine → List ℕ → ℕ → ℕ → ℕ
word_at m words segment word = get_or words (place m segment word) 0
