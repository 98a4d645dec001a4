-- The check of a reference by the pointer's tag.
use Rattle.std.specs.Prelude.{ℕ, ◌+◌, List, eqb, get_or, if◌then◌else◌}
use Rattle.words.specs.Answer.{Answer, refuse, ok}
use Rattle.words.specs.declared.pointer.Pointer.{Pointer}
use Rattle.state.specs.declared.record.Frame.{Frame}
use Rattle.state.specs.declared.record.Register.{Register}
use Rattle.references.specs.declared.flag.Flag.{Flag}
use Rattle.references.specs.declared.flag.Access.{Access}
use Rattle.references.specs.Flag.{flag_of}
use Rattle.references.specs.Static.{static_of}
use Rattle.references.specs.Live.{live_through}

-- 0, or the number of the fault: live, through the registers, for a tagged pointer, static for another
unfoldable pub verdict_of : List ℕ → List ℕ → ℕ → List Register → ℕ → Frame → Access → Pointer → ℕ
verdict_of lengths rights domain recent depth frame access p =
    if p.tag then live_through lengths rights recent depth frame access p.segment p.word
    else static_of lengths rights domain (flag_of access) p.segment p.word

-- a value where the number is 0, else the refusal
abbrev pub accept : {A : Type 0} → ℕ → A → Answer A
accept n a = if eqb n 0 then ok a else refuse n

-- where a word lies in the memory
abbrev pub index_of : List ℕ → ℕ → ℕ → ℕ
index_of bases segment word = get_or bases segment 0 + word

-- the index of a word that passes the static check
unfoldable pub locate_of : List ℕ → List ℕ → List ℕ → ℕ → Flag → ℕ → ℕ → Answer ℕ
locate_of lengths rights bases domain flag segment word = accept (static_of lengths rights domain flag segment word) (index_of bases segment word)

-- the index of a word that passes the live check
unfoldable pub live_reference_of : List ℕ → List ℕ → List ℕ → List Register → ℕ → Frame → Access → ℕ → ℕ → Answer ℕ
live_reference_of lengths rights bases recent depth frame access segment word = accept (live_through lengths rights recent depth frame access segment word) (index_of bases segment word)

-- the index of a word that passes the check of a reference
unfoldable pub reference_of : List ℕ → List ℕ → List ℕ → ℕ → List Register → ℕ → Frame → Access → Pointer → Answer ℕ
reference_of lengths rights bases domain recent depth frame access p = accept (verdict_of lengths rights domain recent depth frame access p) (index_of bases p.segment p.word)
