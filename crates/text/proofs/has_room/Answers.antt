-- `text::has_room` meets its contract.
use Prim.Native.Nat.{◌+◌}
use native.Mathlib.Omega.{arith}
use mathlib.Core.Path.{sym}
use borrow.Author.Tests.{lt-leb}
use Rattle.text.proofs.Puts.{room-left}
use Rattle.text.proofs.has_room.Goals as goal

pub returns-then-size-at : goal.returns-then-size-at
returns-then-size-at c = let a = c.args in sym (lt-leb (a.at + a.count) a.size (omega (arith, c.if-size-at.true)))

pub returns : goal.returns
returns c = room-left _ _ _ c.if-size-at.false
