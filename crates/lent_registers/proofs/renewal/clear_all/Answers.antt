use Rattle.recent.specs.Registers.{cleared}
use Rattle.lent_registers.proofs.Loops.{changed-all, clears-on}
use Rattle.lent_registers.proofs.renewal.clear_all.Goals as goal

pub loop-i-preserved : goal.loop-i-preserved
loop-i-preserved c = clears-on _ _ _ _ c.loop-i-test.true _ _ c.loop-i.invariant (c.requires.1 _ c.loop-i-test.true) c.clear_one.ensures

pub returns : goal.returns
unfolding cleared
returns c = changed-all _ _ _ _ c.loop-i-test.false c.loop-i.invariant
