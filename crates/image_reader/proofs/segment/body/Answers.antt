-- `image_reader::segment::body` meets its contract.
use Prim.Native.Nat.{◌+◌, ◌≤◌}
use native.Mathlib.Omega.{arith}
use lib.ListN.{length, drop, length-drop}
use Rattle.image_format.proofs.Bodies.{segment-body}
use Rattle.words.proofs.Results.{handed_on}
use Rattle.image_reader.proofs.segment.body.Goals as goal
use Rattle.image_reader.proofs.segment.body.Goals.{Start}

room : (s : Start) → 4 + s.args.n ≤ length (drop s.args.at s.args.image.now)
room s = omega (arith, length-drop s.args.at s.args.image.now, s.requires.1)

pub returns-in_err-fields : goal.returns-in_err-fields
returns-in_err-fields c =
    let a = c.args in
    simp (segment-body a.image.now a.at a.n c.requires.0 (room (goal.at.returns-in_err-fields c).Start) a.domains, ← c.pair-gates.ensures, ← c.fields.ensures, c.in_err-fields.was, handed_on c.from_residual.result _ c.from_residual.ensures.1)

pub returns : goal.returns
returns c =
    let a = c.args in
    simp (segment-body a.image.now a.at a.n c.requires.0 (room (goal.at.returns c).Start) a.domains, ← c.pair-gates.ensures, ← c.fields.ensures, c.in_ok-fields.was)
