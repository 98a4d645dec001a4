use Rattle.recent.specs.Registers.{with_entry}
use Rattle.lent_registers.proofs.Loops.{changed-all, enters_on}
use Rattle.lent_registers.proofs.renewal.enter.Goals as goal

pub loop-i-preserved : goal.loop-i-preserved
loop-i-preserved c = enters_on _ _ _ _ c.loop-i-test.true _ _ c.loop-i.invariant c.enter_one.ensures

pub returns : goal.returns
unfolding with_entry
returns c = changed-all _ _ _ _ c.loop-i-test.false c.loop-i.invariant
