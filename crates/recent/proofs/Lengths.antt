-- There stay as many registers as there were.
use Rattle.std.specs.Prelude.{if◌then◌else◌}
use Prim.Native.Nat.{ℕ, ◌-◌}
use mathlib.Core.Bool.{Bool, true, false}
use mathlib.Core.List.{List, map}
use mathlib.Core.Path.{◌≡◌, refl}
use lib.Dec.{eqb}
use lib.ListN.{length, length-map, get_or, take}
use Rattle.words.specs.Answer.{Answer, refuse, ok, ◌>>=◌}
use Rattle.state.specs.declared.record.Capability.{Capability}
use Rattle.state.specs.declared.record.Frame.{Frame}
use Rattle.state.specs.declared.record.Register.{Register}
use Rattle.state.specs.Record.{no_capability}
use Rattle.capabilities.specs.Search.{first_of}
use Rattle.recent.specs.Entering.{all_yield, may_enter, capabilities_of}
use Rattle.recent.specs.Registers.{numbered, risen, touched, with_entry, cleared, listed}
use Rattle.recent.specs.Found.{held_of, noted, by_held, found_of, registers_after}

pub touched-length : (old : ℕ) (rs : List Register) → length (touched old rs) ≡ length rs
unfolding touched
touched-length old rs = by (eqb old 15)
  where
    by : (t : Bool) → length (if t then rs else map (λ r. numbered r (risen old r.recency)) rs) ≡ length rs
    by true = refl
    by false = simp length-map

pub entered-length : (c : Capability) (frame : ℕ) (rs : List Register) → length (with_entry c frame rs) ≡ length rs
unfolding with_entry
entered-length c frame rs = simp length-map

pub cleared-length : (frame : ℕ) (rs : List Register) → length (cleared frame rs) ≡ length rs
unfolding cleared
cleared-length frame rs = simp length-map

entered-or : (t : Bool) (c : Capability) (frame : ℕ) (rs : List Register) → length (if t then with_entry c frame rs else rs) ≡ length rs
entered-or true c frame rs = entered-length c frame rs
entered-or false c frame rs = refl

pub listed-length : (depth : ℕ) (f : Frame) (rs : List Register) → length (listed depth f rs) ≡ length rs
unfolding listed
listed-length depth f rs =
    let c = get_or f.capabilities (f.count - 1) no_capability in
    entered-or (all_yield (take (f.count - 1) f.capabilities) c) c depth rs

pub found-length : (rs : List Register) (depth : ℕ) (frame : Frame) (fits : Capability → Bool) → length (registers_after rs (found_of rs depth frame fits)) ≡ length rs
unfolding found_of
found-length rs depth frame fits = by (eqb depth 0)
  where
    cs : List Capability
    cs = capabilities_of frame

    searched-length : (a : Answer Capability) → length (registers_after rs (a >>= (λ c. ok (record { capability = c; registers = noted depth cs rs c })))) ≡ length rs
    searched-length (refuse n) = refl
    searched-length (ok c) = entered-or (may_enter cs c) c depth rs

    through : (a : Answer Register) → length (registers_after rs (by_held depth fits cs rs a)) ≡ length rs
    through (refuse n) = searched-length (first_of fits cs)
    through (ok r) = touched-length r.recency rs

    by : (t : Bool) → length (registers_after rs (if t then refuse 24 else by_held depth fits cs rs (held_of depth fits rs))) ≡ length rs
    by true = refl
    by false = through (held_of depth fits rs)
