-- `text::put_decimal` meets its contract.
use Prim.Native.Nat.{◌+◌, ◌<◌, ◌≤◌}
use native.Mathlib.Omega.{arith}
use lib.ListN.{length}
use Rattle.text.specs.Text.{decimal}
use Rattle.text.proofs.Puts.{puts-within, none_within, room-is, room-none}
use Rattle.text.proofs.put_decimal.Goals as goal
use Rattle.text.proofs.put_decimal.Goals.{Else-not-has_room, Then-not-has_room}

-- what the test of the room says
room : (c : Else-not-has_room) → let a = c.args in a.at + length (decimal a.n) ≤ length a.output.now
room c =
    let a = c.args in
    omega (arith, room-is c.has_room.result (a.at + c.width.result) (length a.output.now) c.has_room.ensures c.if-not-has_room.false, c.width.ensures)

no_room : (c : Then-not-has_room) → let a = c.args in length a.output.now < a.at + length (decimal a.n)
no_room c =
    let a = c.args in
    omega (arith, room-none c.has_room.result (a.at + c.width.result) (length a.output.now) c.has_room.ensures c.if-not-has_room.true, c.width.ensures)

pub returns-then-not-has_room : goal.returns-then-not-has_room
returns-then-not-has_room c = let p = none_within _ _ _ (no_room c) in
    record { value = p.0; output_after = p.1 }

pub put_digits-requires : goal.put_digits-requires
put_digits-requires c = room (goal.at.put_digits-requires c).Else-not-has_room

pub returns : goal.returns
returns c = let p = puts-within _ _ _ _ _ (room (goal.at.returns c).Else-not-has_room) (c.put_digits.ensures.value, c.put_digits.ensures.output_after) in
    record { value = p.0; output_after = p.1 }
