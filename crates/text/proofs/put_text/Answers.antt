-- `text::put_text` meets its contract.
use native.Mathlib.Omega.{arith}
use mathlib.Core.Path.{refl}
use Rattle.text.proofs.Puts.{part-written, puts-within, none_within, room-is, room-none}
use Rattle.text.proofs.put_text.Goals as goal

pub returns-then-not-has_room : goal.returns-then-not-has_room
returns-then-not-has_room c = let p = none_within _ _ _ (room-none _ _ _ c.has_room.ensures c.if-not-has_room.true) in
    record { value = p.0; output_after = p.1 }

pub returns : goal.returns
returns c =
    let a = c.args in
    let p = puts-within a.output.now _ a.at _ a.text.now (room-is _ _ _ c.has_room.ensures c.if-not-has_room.false) (refl, part-written _ _ _ _ c.copy_from_slice.ensures.after (omega arith)) in
    record { value = p.0; output_after = p.1 }
