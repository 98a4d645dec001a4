-- `instructions::made::indirect_place` meets its contract.
use borrow.Author.Tests.{not-true, not-false}
use mathlib.Core.Path.{◌≡◌}
use mir.Syntax.{w32}
use mir.Val.{SFits}
use mir.ValLaws.{to_z-of_z}
use Rattle.words.specs.Offset.{displaced_of}
use Rattle.words.specs.Refusal.{answer_of}
use Rattle.addressing.specs.Effective.{displaced_by}
use Rattle.instructions.specs.Made.{indirect_place}
use Rattle.instructions.proofs.made.indirect_place.Goals as goal

pub returns-then-not-i : goal.returns-then-not-i
unfolding indirect_place
returns-then-not-i c = simp (not-true c.args.i.indirect c.if-not-i.true)

pub returns-in-Err : goal.returns-in-Err
unfolding indirect_place displaced_by
returns-in-Err c =
    let told : SFits w32 c.args.i.offset = record { sfits = c.struct_told-1.given.0.1 } in
    let asked : answer_of c.displace.result ≡ displaced_of c.pointer_at-base.result.word c.args.i.offset = rw (to_z-of_z w32 _ (told)) at c.displace.ensures in
    simp (not-false c.args.i.indirect c.if-not-i.false, ← c.pointer_at-base.ensures, ← asked, c.in-Err.is)

pub returns-in-Ok : goal.returns-in-Ok
unfolding indirect_place displaced_by
returns-in-Ok c =
    let told : SFits w32 c.args.i.offset = record { sfits = c.struct_told-1.given.0.1 } in
    let asked : answer_of c.displace.result ≡ displaced_of c.pointer_at-base.result.word c.args.i.offset = rw (to_z-of_z w32 _ (told)) at c.displace.ensures in
    simp (not-false c.args.i.indirect c.if-not-i.false, ← c.pointer_at-base.ensures, ← asked, c.in-Ok.is)
