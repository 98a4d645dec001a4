-- The sixteen registers (an associative memory), and what a match, an entry and a return make of them.
use Rattle.std.specs.Prelude.{ℕ, zero, suc, ◌+◌, ◌-◌, List, [], ◌∷◌, map, eqb, ltb, get_or, take, if◌then◌else◌}
use Rattle.words.specs.Bit.{bit}
use Rattle.state.specs.declared.record.Capability.{Capability}
use Rattle.state.specs.declared.record.Frame.{Frame}
use Rattle.state.specs.declared.record.Register.{Register}
use Rattle.state.specs.Record.{no_capability}
use Rattle.recent.specs.Entering.{all_yield}

-- a register with this capability, frame and recency number
abbrev pub register : Capability → ℕ → ℕ → Register
register c frame n = record { capability = c; frame = frame; recency = n }

abbrev pub numbered : Register → ℕ → Register
numbered r n = register r.capability r.frame n

-- in a fresh machine they are empty, register k with number k
abbrev pub empty_from : ℕ → ℕ → List Register
empty_from zero k = []
empty_from (suc n) k = register no_capability 0 k ∷ empty_from n (k + 1)

abbrev pub fresh_registers : List Register
fresh_registers = empty_from 16 0

-- a match: its number, old, becomes 15, and every number above falls by one; above 15 there is none
unfoldable pub risen : ℕ → ℕ → ℕ
risen old n = if eqb n old then 15 else (if ltb old n then n - 1 else n)

unfoldable pub touched : ℕ → List Register → List Register
touched old rs = if eqb old 15 then rs else map (λ r. numbered r (risen old r.recency)) rs

-- a new entry replaces the register at 0 and gets 15, and all others fall by one
abbrev pub entered_in : Capability → ℕ → Register → Register
entered_in c frame r = if eqb r.recency 0 then register c frame 15 else numbered r (r.recency - 1)

unfoldable pub with_entry : Capability → ℕ → List Register → List Register
with_entry c frame rs = map (entered_in c frame) rs

-- the order after a return from a frame: its registers first, then the others, each in their old order
unfoldable pub order_of : ℕ → Register → ℕ
order_of frame r = if eqb r.frame frame then r.recency else r.recency + 16

-- how many registers come before place k of that order
unfoldable pub before : ℕ → ℕ → List Register → ℕ
before frame k [] = 0
before frame k (r ∷ rs) = bit (ltb (order_of frame r) k) + before frame k rs

-- a return: the frame's registers become empty, and all are numbered in that order
abbrev pub cleared_in : ℕ → List Register → Register → Register
cleared_in frame rs r =
    let n = before frame (order_of frame r) rs in
    if eqb r.frame frame then register no_capability 0 n else numbered r n

unfoldable pub cleared : ℕ → List Register → List Register
cleared frame rs = map (cleared_in frame rs) rs

-- a call: the new frame's last capability, that of the list, is entered if none of the rows before it keeps it out
unfoldable pub listed : ℕ → Frame → List Register → List Register
listed depth f rs =
    let c = get_or f.capabilities (f.count - 1) no_capability in
    if all_yield (take (f.count - 1) f.capabilities) c then with_entry c depth rs else rs
