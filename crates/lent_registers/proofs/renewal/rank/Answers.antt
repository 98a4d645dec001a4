use Rattle.lent_registers.proofs.Loops.{ranks-none, ranks-next, ranks-all}
use Rattle.lent_registers.proofs.renewal.rank.Goals as goal

pub loop-i-init : goal.loop-i-init
loop-i-init c = ranks-none _ _ _

pub loop-i-preserved : goal.loop-i-preserved
loop-i-preserved c = ranks-next _ _ _ _ _ _ c.loop-i-test.true c.loop-i.invariant c.counted-n.ensures.0 c.counted-n.ensures.1

pub returns : goal.returns
returns c = ranks-all _ _ _ _ _ c.loop-i-test.false c.loop-i.invariant
