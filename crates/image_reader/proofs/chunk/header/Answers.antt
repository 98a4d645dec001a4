-- `image_reader::chunk::header` meets its contract.
use Prim.Native.Nat.{◌+◌, ◌≤◌}
use native.Mathlib.Omega.{arith}
use borrow.Author.Tests.{lt-leb, le-leb, ne_eqb, eq-eqb}
use lib.ListN.{length, length-drop}
use lib.Seq.{drop-drop}
use Rattle.image_format.specs.Chunk.{header_of}
use borrow.Author.Rules.{rules}
use Rattle.image_reader.proofs.chunk.header.Goals as goal
use Rattle.image_reader.proofs.chunk.header.Goals.{Else-left-lt4}

pub returns-then-left-lt4 : goal.returns-then-left-lt4
unfolding header_of
returns-then-left-lt4 c = simp (← c.left.ensures, lt-leb _ _ c.if-left-lt4.true)

-- the header is there
room : (c : Else-left-lt4) → c.args.at + 4 ≤ length c.args.image.now
room c = let a = c.args in omega (arith, c.left.ensures, length-drop a.at a.image.now, c.if-left-lt4.false)

pub overflow_add-at : goal.overflow_add-at
overflow_add-at c = let h = room c in search rules

pub returns-then-pair-kind : goal.returns-then-pair-kind
unfolding header_of
returns-then-pair-kind c =
    simp (← c.left.ensures, le-leb _ _ c.if-left-lt4.false, drop-drop, ← c.pair.ensures, ne_eqb _ _ c.if-pair-kind.true)

pub returns : goal.returns
unfolding header_of
returns c =
    simp (← c.left.ensures, le-leb _ _ c.if-left-lt4.false, drop-drop, ← c.pair.ensures, eq-eqb _ _ c.if-pair-kind.false, ← c.pair-2.ensures)
