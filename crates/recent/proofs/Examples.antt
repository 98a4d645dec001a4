-- Small examples, computed.
use Prim.Native.Nat.{ℕ, zero, suc}
use mathlib.Core.Bool.{true, false}
use mathlib.Core.List.{List, [], ◌∷◌, map}
use mathlib.Core.Path.{◌≡◌, refl}
use lib.ListN.{replicate}
use Rattle.words.specs.Answer.{refuse, ok}
use Rattle.state.specs.declared.record.Capability.{Capability}
use Rattle.state.specs.declared.record.Frame.{Frame}
use Rattle.state.specs.declared.record.Register.{Register}
use Rattle.state.specs.Record.{no_pointer}
use Rattle.capabilities.specs.Search.{covers_of, first_of}
use Rattle.recent.specs.Entering.{shares, yields, all_yield, same, may_enter, capabilities_of}
use Rattle.recent.specs.Registers.{register, fresh_registers, risen, touched, with_entry, order_of, before, cleared, listed}
use Rattle.recent.specs.Found.{held_of, found_of, registers_after}

-- length words of segment 1 from word up, with R, from this source
abbrev on : ℕ → ℕ → ℕ → Capability
on word length source = record { word = word; length = length; segment = 1; source = source; read = true; write = false }

-- words 0-3 of domain 0, 3-5 and 6-7 of domain 1: the second shares word 3 with the first
abbrev frame : Frame
frame = record { capabilities = on 0 4 0 ∷ on 3 3 1 ∷ on 6 2 1 ∷ []; s = no_pointer; back = no_pointer; count = 3; domain = 0 }

-- the registers after reads of these words, one after the other, with this frame the live one of depth
abbrev reads : ℕ → List ℕ → List Register → List Register
reads depth [] rs = rs
reads depth (w ∷ ws) rs = reads depth ws (registers_after rs (found_of rs depth frame (covers_of 1 w 1 true false)))

abbrev numbers : List Register → List ℕ
numbers rs = map (λ r. r.recency) rs

abbrev frames : List Register → List ℕ
frames rs = map (λ r. r.frame) rs

-- an entry replaces the register with number 0
first_entry : (numbers (reads 1 (0 ∷ []) fresh_registers) ≡ 15 ∷ 0 ∷ 1 ∷ 2 ∷ 3 ∷ 4 ∷ 5 ∷ 6 ∷ 7 ∷ 8 ∷ 9 ∷ 10 ∷ 11 ∷ 12 ∷ 13 ∷ 14 ∷ []) ×
    (frames (reads 1 (0 ∷ []) fresh_registers) ≡ 1 ∷ replicate 15 0)
unfolding found_of held_of first_of covers_of may_enter same yields shares with_entry
first_entry = (refl, refl)

second-entry : (numbers (reads 1 (0 ∷ 6 ∷ []) fresh_registers) ≡ 14 ∷ 15 ∷ 0 ∷ 1 ∷ 2 ∷ 3 ∷ 4 ∷ 5 ∷ 6 ∷ 7 ∷ 8 ∷ 9 ∷ 10 ∷ 11 ∷ 12 ∷ 13 ∷ []) ×
    (frames (reads 1 (0 ∷ 6 ∷ []) fresh_registers) ≡ 1 ∷ 1 ∷ replicate 14 0)
unfolding found_of held_of first_of covers_of may_enter same yields shares with_entry
second-entry = (refl, refl)

-- a match rises to 15
match-rises : numbers (reads 1 (0 ∷ 6 ∷ 1 ∷ []) fresh_registers) ≡ 15 ∷ 14 ∷ 0 ∷ 1 ∷ 2 ∷ 3 ∷ 4 ∷ 5 ∷ 6 ∷ 7 ∷ 8 ∷ 9 ∷ 10 ∷ 11 ∷ 12 ∷ 13 ∷ []
unfolding found_of held_of first_of covers_of may_enter same yields shares with_entry touched risen
match-rises = refl

-- n entries of frame 1
abbrev filled : ℕ → List Register → List Register
filled zero rs = rs
filled (suc n) rs = filled n (with_entry (on n 1 0) 1 rs)

-- where all are filled, an entry replaces the one with number 0 too
oldest-replaced : (numbers (filled 16 fresh_registers) ≡ numbers fresh_registers) × (frames (filled 16 fresh_registers) ≡ replicate 16 1) ×
    (numbers (reads 2 (0 ∷ []) (filled 16 fresh_registers)) ≡ 15 ∷ 0 ∷ 1 ∷ 2 ∷ 3 ∷ 4 ∷ 5 ∷ 6 ∷ 7 ∷ 8 ∷ 9 ∷ 10 ∷ 11 ∷ 12 ∷ 13 ∷ 14 ∷ []) ×
    (frames (reads 2 (0 ∷ []) (filled 16 fresh_registers)) ≡ 2 ∷ replicate 15 1)
unfolding found_of held_of first_of covers_of may_enter same yields shares with_entry
oldest-replaced = (refl, refl, refl, refl)

-- words 4 and 5 are found in a capability that shares word 3 with an earlier one of another source: it is not entered
not_entered : (first_of (covers_of 1 4 1 true false) (capabilities_of frame) ≡ ok (on 3 3 1)) × (reads 1 (4 ∷ 5 ∷ []) fresh_registers ≡ fresh_registers)
unfolding found_of held_of first_of covers_of may_enter same yields shares with_entry
not_entered = (refl, refl)

-- flags do not count: with W alone it would be kept out too
flags-apart : shares (on 0 4 0) (record { word = 3; length = 3; segment = 1; source = 1; read = false; write = true }) ≡ true
unfolding shares
flags-apart = refl

-- a frame with these rows
abbrev called : ℕ → List Capability → Frame
called count cs = record { capabilities = cs; s = no_pointer; back = no_pointer; count = count; domain = 0 }

-- a call enters the list's capability under the new depth
list-entered : listed 2 (called 1 (on 0 4 0 ∷ [])) fresh_registers ≡ with_entry (on 0 4 0) 2 fresh_registers
unfolding listed all_yield may_enter same with_entry
list-entered = refl

-- the list's capability is judged by its own row, the last: an argument equal to it in the first row may be entered, and it is not
own_row : (may_enter (on 0 4 0 ∷ on 3 3 1 ∷ on 0 4 0 ∷ []) (on 0 4 0) ≡ true) × (listed 1 (called 3 (on 0 4 0 ∷ on 3 3 1 ∷ on 0 4 0 ∷ [])) fresh_registers ≡ fresh_registers)
unfolding listed all_yield may_enter same yields shares with_entry
own_row = (refl, refl)

-- the first register is filled for frame 1, the second for frame 2, and so on in turn
abbrev four : List Register
four = with_entry (on 3 1 0) 2 (with_entry (on 2 1 0) 1 (with_entry (on 1 1 0) 2 (with_entry (on 0 1 0) 1 fresh_registers)))

-- a return from frame 2 empties its registers, which are the next replaced in their old order; the others follow in theirs
return-clears : (numbers four ≡ 12 ∷ 13 ∷ 14 ∷ 15 ∷ 0 ∷ 1 ∷ 2 ∷ 3 ∷ 4 ∷ 5 ∷ 6 ∷ 7 ∷ 8 ∷ 9 ∷ 10 ∷ 11 ∷ []) ×
    (numbers (cleared 2 four) ≡ 14 ∷ 0 ∷ 15 ∷ 1 ∷ 2 ∷ 3 ∷ 4 ∷ 5 ∷ 6 ∷ 7 ∷ 8 ∷ 9 ∷ 10 ∷ 11 ∷ 12 ∷ 13 ∷ []) ×
    (frames (cleared 2 four) ≡ 1 ∷ 0 ∷ 1 ∷ replicate 13 0)
unfolding with_entry cleared before order_of
return-clears = (refl, refl, refl)

-- a register of an older frame does not match
older-frame : (held_of 1 (covers_of 1 0 1 true false) (register (on 0 4 0) 1 15 ∷ []) ≡ ok (register (on 0 4 0) 1 15)) ×
    (held_of 2 (covers_of 1 0 1 true false) (register (on 0 4 0) 1 15 ∷ []) ≡ refuse 24)
unfolding held_of covers_of
older-frame = (refl, refl)

-- of two that match, the lowest register's counts, whatever their numbers
lowest-match : held_of 1 (covers_of 1 0 1 true false) (register (on 0 4 0) 1 3 ∷ register (on 0 2 0) 1 9 ∷ []) ≡ ok (register (on 0 4 0) 1 3)
unfolding held_of covers_of
lowest-match = refl
