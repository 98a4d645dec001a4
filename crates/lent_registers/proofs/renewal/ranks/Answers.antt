use Rattle.lent_registers.proofs.Whole.{ranked-on, ranked-all}
use Rattle.lent_registers.proofs.renewal.ranks.Goals as goal

pub loop-i-preserved : goal.loop-i-preserved
loop-i-preserved c = ranked-on _ _ _ _ _ c.loop-i-test.true c.loop-i.invariant c.order-place.ensures c.rank.ensures

pub returns : goal.returns
returns c = ranked-all _ _ _ _ c.loop-i-test.false c.loop-i.invariant
