-- The live check, and arguments that are passed on.
use Rattle.std.specs.Prelude.{ℕ, Bool, not, List, eqb, take, if◌then◌else◌}
use Rattle.words.specs.Answer.{Answer, refuse, ok, ◌>>=◌}
use Rattle.words.specs.Numbers.{no_match, source_fails}
use Rattle.state.specs.declared.record.Capability.{Capability}
use Rattle.state.specs.declared.record.Frame.{Frame}
use Rattle.state.specs.declared.record.Register.{Register}
use Rattle.references.specs.declared.flag.Access.{Access}
use Rattle.references.specs.Flag.{flag_of, is_read}
use Rattle.references.specs.Static.{static_of}
use Rattle.capabilities.specs.Search.{covers_of, first_of}
use Rattle.recent.specs.Found.{found_of}

-- the first capability of the live frame that fits; 24 without a frame
unfoldable pub live_match : ℕ → Frame → (Capability → Bool) → Answer Capability
live_match depth frame fits = if eqb depth 0 then refuse no_match else first_of fits (take frame.count frame.capabilities)

-- after the match: its source must pass the static check for the same reference, and no later capability is tried
abbrev pub sourced : List ℕ → List ℕ → Access → ℕ → ℕ → Answer Capability → ℕ
sourced lengths rights access segment word (refuse n) = n
sourced lengths rights access segment word (ok c) =
    if eqb (static_of lengths rights c.source (flag_of access) segment word) 0 then 0 else source_fails

-- with no registers: 0 where the live frame allows the access, else the number of the fault
unfoldable pub live_of : List ℕ → List ℕ → ℕ → Frame → Access → ℕ → ℕ → ℕ
live_of lengths rights depth frame access segment word =
    sourced lengths rights access segment word
    (live_match depth frame (covers_of segment word 1 (is_read access) (not (is_read access))))

-- the same through the registers
unfoldable pub live_through : List ℕ → List ℕ → List Register → ℕ → Frame → Access → ℕ → ℕ → ℕ
live_through lengths rights recent depth frame access segment word =
    sourced lengths rights access segment word
    (found_of recent depth frame (covers_of segment word 1 (is_read access) (not (is_read access))) >>= (λ f. ok f.capability))

-- the source that is passed on: of the first capability that covers the whole argument with all flags asked
unfoldable pub passed_of : ℕ → Frame → ℕ → ℕ → ℕ → Bool → Bool → Answer ℕ
passed_of depth frame segment word length read write =
    live_match depth frame (covers_of segment word length read write) >>= (λ c. ok c.source)
