-- When the registers of a machine record are sound.
use Rattle.std.specs.Prelude.{ℕ, ◌-◌, Bool, true, not, ◌&&◌, List, [], ◌∷◌, leb, eqb, get_or, if◌then◌else◌}
use Rattle.state.specs.declared.record.Frame.{Frame}
use Rattle.state.specs.declared.record.Register.{Register}
use Rattle.state.specs.Record.{no_capability, no_frame}
use Rattle.recent.specs.Entering.{same, may_enter, capabilities_of}

-- no register has this number
unfoldable pub absent : ℕ → List Register → Bool
absent n [] = true
absent n (r ∷ rs) = not (eqb r.recency n) && absent n rs

-- different recency numbers from 0 to 15
unfoldable pub numbers_test : List Register → Bool
numbers_test [] = true
numbers_test (r ∷ rs) = leb r.recency 15 && (absent r.recency rs && numbers_test rs)

-- a filled register holds a capability that its frame in use, f, has and that may be entered; an empty one is zero but for its number
unfoldable pub register_test : ℕ → Frame → Register → Bool
register_test depth f r =
    if eqb r.frame 0 then same r.capability no_capability else (leb r.frame depth && may_enter (capabilities_of f) r.capability)

-- the frame that a register names
abbrev pub frame_of_register : List Frame → Register → Frame
frame_of_register fs r = get_or fs (r.frame - 1) no_frame

unfoldable pub contents_test : ℕ → List Frame → List Register → Bool
contents_test depth fs [] = true
contents_test depth fs (r ∷ rs) = register_test depth (frame_of_register fs r) r && contents_test depth fs rs

-- the registers of a record are sound; that they are sixteen comes from the type of the record's array
unfoldable pub recent_test : ℕ → List Frame → List Register → Bool
recent_test depth fs rs = numbers_test rs && contents_test depth fs rs
