use Rattle.lent_registers.proofs.Whole.{gathers-on, gathered-all}
use Rattle.lent_registers.proofs.columns.gathered.Goals as goal

pub loop-i-preserved : goal.loop-i-preserved
loop-i-preserved c = gathers-on _ _ _ _ c.loop-i-test.true c.loop-i.invariant c.register_at.ensures

pub returns : goal.returns
returns c = gathered-all _ _ _ c.loop-i-test.false c.loop-i.invariant
