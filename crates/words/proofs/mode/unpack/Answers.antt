-- `words::mode::unpack` meets its contract.
use Rattle.std.proofs.Common.{◌≡◌, true, leb, arith, eq-eqb, ne_eqb, le-leb}
use borrow.Author.Tests.{lt-leb}
use Rattle.words.specs.ModeWord.{mode_of}
use Rattle.words.proofs.mode.unpack.Goals as goal
use Rattle.words.proofs.mode.unpack.Goals.{Else-bits-eq0, Else-length-eq0}

pub returns-then-length-eq0 : goal.returns-then-length-eq0
unfolding mode_of
returns-then-length-eq0 c = let b = c.before in simp (← b.bits-length.ensures.0, lt-leb 1 b.bits-length.result (omega arith))

-- the length is not 0
some : (c : Else-length-eq0) → leb 1 c.before.bits-length.result ≡ true
some c = le-leb 1 c.before.bits-length.result (omega (arith, c.if-length-eq0.false))

pub returns-then-length-gt4096 : goal.returns-then-length-gt4096
unfolding mode_of
returns-then-length-gt4096 c = simp (← c.before.before.bits-length.ensures.0, some c.before, lt-leb _ _ c.if-length-gt4096.true)

pub returns-then-bits-ne0 : goal.returns-then-bits-ne0
unfolding mode_of
returns-then-bits-ne0 c =
    let e = c.before.before in
    simp (← e.before.before.bits-length.ensures.0, some e.before, le-leb _ _ e.if-length-gt4096.false, ← c.before.bits.ensures.0, ne_eqb _ _ c.if-bits-ne0.true)

pub returns-then-bits-eq0 : goal.returns-then-bits-eq0
unfolding mode_of
returns-then-bits-eq0 c =
    let g = c.before in
    let f = g.before in
    let e = f.before.before in
    simp (← e.before.before.bits-length.ensures.0, some e.before, le-leb _ _ e.if-length-gt4096.false, ← f.before.bits.ensures.0, eq-eqb _ _ f.if-bits-ne0.false, ← g.bits-2.ensures.0, lt-leb 1 g.bits-2.result (omega arith))

-- a flag is on
flagged : (c : Else-bits-eq0) → leb 1 c.before.bits-2.result ≡ true
flagged c = le-leb 1 c.before.bits-2.result (omega (arith, c.if-bits-eq0.false))

pub returns-then-start-length-gt4096 : goal.returns-then-start-length-gt4096
unfolding mode_of
returns-then-start-length-gt4096 c =
    let h = c.before in
    let g = h.before in
    let f = g.before in
    let e = f.before.before in
    simp (← e.before.before.bits-length.ensures.0, some e.before, le-leb _ _ e.if-length-gt4096.false, ← f.before.bits.ensures.0, eq-eqb _ _ f.if-bits-ne0.false, ← g.bits-2.ensures.0, flagged h, lt-leb _ _ c.if-start-length-gt4096.true)

pub returns : goal.returns
unfolding mode_of
returns c =
    let d = c.before.before in
    let h = d.before in
    let g = h.before in
    let f = g.before in
    let e = f.before.before in
    simp (← e.before.before.bits-length.ensures.0, some e.before, le-leb _ _ e.if-length-gt4096.false, ← f.before.bits.ensures.0, eq-eqb _ _ f.if-bits-ne0.false, ← g.bits-2.ensures.0, flagged h, le-leb _ _ d.if-start-length-gt4096.false, ← c.before.bits-3.ensures.0, ← c.bits-4.ensures.0)
