use borrow.Author.Tests.{eq-eqb, ne_eqb, lt-ltb, le-ltb}
use Rattle.recent.specs.Registers.{risen}
use Rattle.lent_registers.proofs.renewal.number_risen.Goals as goal

pub returns-then-n-old : goal.returns-then-n-old
unfolding risen
returns-then-n-old c = simp (eq-eqb _ _ c.if-n-old.true)

pub returns-then-old-n : goal.returns-then-old-n
unfolding risen
returns-then-old-n c = simp (ne_eqb _ _ c.if-n-old.false, lt-ltb _ _ c.if-old-n.true)

pub returns : goal.returns
unfolding risen
returns c = simp (ne_eqb _ _ c.if-n-old.false, le-ltb _ _ c.if-old-n.false)
