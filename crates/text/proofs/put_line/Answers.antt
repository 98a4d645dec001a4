-- `text::put_line` meets its contract.
use Prim.Native.Nat.{◌+◌, ◌<◌, ◌≤◌}
use native.Mathlib.Omega.{arith}
use mathlib.Core.List.{[], ◌∷◌}
use lib.ListN.{length, length-append}
use Rattle.text.specs.Text.{labelled, line}
use Rattle.text.proofs.Decimals.{decimal-most, line-size}
use Rattle.text.proofs.Puts.{within-puts, puts-within, puts_then, none_within, room-is, room-none}
use Rattle.text.proofs.put_line.Goals as goal
use Rattle.text.proofs.put_line.Goals.{After-width, Else-not-has_room, Then-not-has_room}

-- the number has at most ten digits
width-most : (c : After-width) → c.width.result ≤ 10
width-most c =
    omega (arith, c.width.ensures, decimal-most c.args.n (omega (arith, c.ranges.n)))

-- what the test of the room says
room : (c : Else-not-has_room) → let a = c.args in a.at + length (line (labelled a.label.now a.n)) ≤ length a.output.now
room c =
    let a = c.args in
    omega (arith, line-size a.label.now a.n, room-is c.has_room.result (a.at + (length a.label.now + c.width.result + 1)) (length a.output.now) c.has_room.ensures c.if-not-has_room.false, c.width.ensures)

no_room : (c : Then-not-has_room) → let a = c.args in length a.output.now < a.at + length (line (labelled a.label.now a.n))
no_room c =
    let a = c.args in
    omega (arith, line-size a.label.now a.n, room-none c.has_room.result (a.at + (length a.label.now + c.width.result + 1)) (length a.output.now) c.has_room.ensures c.if-not-has_room.true, c.width.ensures)

pub returns : goal.returns
returns c =
    let a = c.args in
    let out = a.output.now in
    let xs = labelled a.label.now a.n in
    let p = within-puts out _ a.at _ xs (omega (arith, room (goal.at.returns c).Else-not-has_room, length-append xs (10 ∷ []))) (c.put_field-next.ensures.value, c.put_field-next.ensures.output_after) in
    let p = puts-within out _ a.at _ (line xs) (room (goal.at.returns c).Else-not-has_room) (puts_then out _ _ a.at _ _ xs (10 ∷ []) (room (goal.at.returns c).Else-not-has_room) p (c.put_text.ensures.value, c.put_text.ensures.output_after)) in
    record { value = p.0; output_after = p.1 }

pub overflow_add-label : goal.overflow_add-label
overflow_add-label c = record { fits = omega (arith, width-most c, c.well_formed.1.1.0.0) }

pub overflow_add-label-2 : goal.overflow_add-label-2
overflow_add-label-2 c = record { fits = omega (arith, width-most c, c.well_formed.1.1.0.0) }

pub returns-then-not-has_room : goal.returns-then-not-has_room
returns-then-not-has_room c =
    let p = none_within _ _ _ (no_room c) in
    record { value = p.0; output_after = p.1 }
