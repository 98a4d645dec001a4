use Rattle.lent_registers.proofs.Whole.{spreads-on, spread-all}
use Rattle.lent_registers.proofs.columns.spread.Goals as goal

pub loop-i-preserved : goal.loop-i-preserved
loop-i-preserved c = spreads-on _ _ _ _ c.loop-i-test.true c.loop-i.invariant c.put.ensures

pub returns : goal.returns
returns c = spread-all _ _ _ c.well_formed.0.1.0.1 c.loop-i-test.false c.loop-i.invariant
