-- What a host learns of the record that its bytes hold: the check of a reference, and where a segment lies.
use Rattle.std.specs.Prelude.{ℕ, not, List, eqb, get_or, if◌then◌else◌}
use Rattle.words.specs.Answer.{Answer, ok, ◌>>=◌, ◌>>◌}
use Rattle.words.specs.declared.pointer.Pointer.{Pointer}
use Rattle.state.specs.Bases.{base_of}
use Rattle.references.specs.declared.flag.Access.{Access}
use Rattle.references.specs.declared.flag.Access.TheVariants as access
use Rattle.record_checks.specs.Judged.{judged_check}
use Rattle.segments.specs.Segment.{segment_check}
use Rattle.held_runs.specs.Opened.{opened}

-- 0 asks to read, another number to write
abbrev pub access_of : ℕ → Access
access_of write = if eqb write 0 then access.Read else access.Write

-- a tag is off where its number is 0
abbrev pub pointer_to : ℕ → ℕ → ℕ → Pointer
pointer_to tag segment word = record { word = word; segment = segment; tag = not (eqb tag 0) }

-- the check of a reference by the executing domain
unfoldable pub checked_on : List ℕ → ℕ → ℕ → ℕ → ℕ → Answer ℕ
checked_on bytes write tag segment word = opened bytes >>= (λ m. judged_check m (access_of write) (pointer_to tag segment word))

-- the first word of a segment in the memory, and how many it has
unfoldable pub segment_on : List ℕ → ℕ → ℕ → Answer (ℕ × ℕ)
segment_on bytes size segment =
    opened bytes >>= (λ m. segment_check m size segment >> ok (base_of m.layout.lengths segment, get_or m.layout.lengths segment 0))
