use borrow.Author.Tests.{eq-eqb, ne_eqb}
use mathlib.Core.Path.{refl}
use Rattle.recent.specs.Registers.{touched}
use Rattle.lent_registers.proofs.Loops.{changed-all, rises-on}
use Rattle.lent_registers.proofs.renewal.touch.Goals as goal

pub returns-then-old-eq15 : goal.returns-then-old-eq15
unfolding touched
returns-then-old-eq15 c = rw (eq-eqb _ _ c.if-old-eq15.true) refl

pub loop-i-preserved : goal.loop-i-preserved
loop-i-preserved c = rises-on _ _ _ _ c.loop-i-test.true _ _ c.loop-i.invariant c.number_risen.ensures c.renumber.ensures

pub returns : goal.returns
unfolding touched
returns c = rw (ne_eqb _ _ c.if-old-eq15.false) (changed-all _ _ _ _ c.loop-i-test.false c.loop-i.invariant)
