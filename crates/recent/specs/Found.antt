-- A live reference through the registers: what it finds, and the registers after it.
use Rattle.std.specs.Prelude.{ℕ, Bool, not, ◌&&◌, List, [], ◌∷◌, eqb, if◌then◌else◌}
use Rattle.words.specs.Answer.{Answer, refuse, ok, ◌>>=◌}
use Rattle.words.specs.Numbers.{no_match}
use Rattle.state.specs.declared.record.Capability.{Capability}
use Rattle.state.specs.declared.record.Frame.{Frame}
use Rattle.state.specs.declared.record.Register.{Register}
use Rattle.capabilities.specs.Search.{covers_of, first_of}
use Rattle.recent.specs.Entering.{may_enter, capabilities_of}
use Rattle.recent.specs.Registers.{touched, with_entry}

-- the capability that allows the reference if its source may, and the registers after it
pub record Found : Type 0 where
  pub capability : Capability
  pub registers : List Register

-- a register that holds a match of the live frame
abbrev pub holds : ℕ → (Capability → Bool) → Register → Bool
holds depth fits r = eqb r.frame depth && fits r.capability

-- the lowest such register
unfoldable pub held_of : ℕ → (Capability → Bool) → List Register → Answer Register
held_of depth fits [] = refuse no_match
held_of depth fits (r ∷ rs) = if holds depth fits r then ok r else held_of depth fits rs

-- the registers after the full search found a capability: it is entered if it may be
abbrev pub noted : ℕ → List Capability → List Register → Capability → List Register
noted depth cs rs c = if may_enter cs c then with_entry c depth rs else rs

-- the full search of the live frame
abbrev pub searched : ℕ → (Capability → Bool) → List Capability → List Register → Answer Found
searched depth fits cs rs = first_of fits cs >>= (λ c. ok (record { capability = c; registers = noted depth cs rs c }))

abbrev pub by_held : ℕ → (Capability → Bool) → List Capability → List Register → Answer Register → Answer Found
by_held depth fits cs rs (refuse n) = searched depth fits cs rs
by_held depth fits cs rs (ok r) = ok (record { capability = r.capability; registers = touched r.recency rs })

-- a registered match, which rises, else the full search; 24 without a frame
unfoldable pub found_of : List Register → ℕ → Frame → (Capability → Bool) → Answer Found
found_of rs depth frame fits =
    if eqb depth 0 then refuse no_match else by_held depth fits (capabilities_of frame) rs (held_of depth fits rs)

-- the registers after a reference; one that finds nothing leaves them
abbrev pub registers_after : List Register → Answer Found → List Register
registers_after rs (refuse n) = rs
registers_after rs (ok f) = f.registers

-- the registers after a reference to a word, to read it or to write it
unfoldable pub referred_to : List Register → ℕ → Frame → ℕ → ℕ → Bool → List Register
referred_to rs depth frame segment word read = registers_after rs (found_of rs depth frame (covers_of segment word 1 read (not read)))
