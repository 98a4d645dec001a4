-- `text::put_field` meets its contract.
use Prim.Native.Nat.{◌+◌, ◌<◌, ◌≤◌}
use native.Mathlib.Omega.{arith}
use lib.ListN.{length, length-append}
use Rattle.text.specs.Text.{decimal, labelled}
use Rattle.text.proofs.Decimals.{decimal-most}
use Rattle.text.proofs.Puts.{within-puts, puts-within, puts_then, none_within, room-is, room-none}
use Rattle.text.proofs.put_field.Goals as goal
use Rattle.text.proofs.put_field.Goals.{Else-not-has_room, Then-not-has_room}

pub overflow_add-label : goal.overflow_add-label
overflow_add-label c =
    record { fits = omega (arith, c.width.ensures, decimal-most c.args.n (omega (arith, c.ranges.n)), c.well_formed.1.1.0.0) }

-- what the test of the room says
room : (c : Else-not-has_room) → let a = c.args in a.at + length (labelled a.label.now a.n) ≤ length a.output.now
room c =
    let a = c.args in
    omega (arith, length-append a.label.now (decimal a.n), room-is c.has_room.result (a.at + (length a.label.now + c.width.result)) (length a.output.now) c.has_room.ensures c.if-not-has_room.false, c.width.ensures)

no_room : (c : Then-not-has_room) → let a = c.args in length a.output.now < a.at + length (labelled a.label.now a.n)
no_room c =
    let a = c.args in
    omega (arith, length-append a.label.now (decimal a.n), room-none c.has_room.result (a.at + (length a.label.now + c.width.result)) (length a.output.now) c.has_room.ensures c.if-not-has_room.true, c.width.ensures)

pub returns : goal.returns
returns c =
    let a = c.args in
    let out = a.output.now in
    let xs = a.label.now in
    let ys = decimal a.n in
    let p = within-puts out _ a.at _ xs (omega (arith, room (goal.at.returns c).Else-not-has_room, length-append xs ys)) (c.put_text-next.ensures.value, c.put_text-next.ensures.output_after) in
    let p = puts-within out _ a.at _ (labelled xs a.n) (room (goal.at.returns c).Else-not-has_room) (puts_then out _ _ a.at _ _ xs ys (room (goal.at.returns c).Else-not-has_room) p (c.put_decimal.ensures.value, c.put_decimal.ensures.output_after)) in
    record { value = p.0; output_after = p.1 }

pub returns-then-not-has_room : goal.returns-then-not-has_room
returns-then-not-has_room c = let p = none_within _ _ _ (no_room c) in
    record { value = p.0; output_after = p.1 }
