-- `words::pointer::unpack` meets its contract.
use Rattle.std.proofs.Common.{eq-eqb, ne_eqb}
use Rattle.words.specs.PointerWord.{pointer_of}
use Rattle.words.proofs.pointer.unpack.Goals as goal

pub returns-then-bits-ne0 : goal.returns-then-bits-ne0
unfolding pointer_of
returns-then-bits-ne0 c = simp (← c.before.bits.ensures.0, ne_eqb _ _ c.if-bits-ne0.true)

pub returns : goal.returns
unfolding pointer_of
returns c =
    let e = c.before.before.before in
    simp (← e.before.bits.ensures.0, eq-eqb _ _ e.if-bits-ne0.false, ← c.before.before.bits-2.ensures.0, ← c.before.bits-3.ensures.0, ← c.bits-4.ensures.0)
