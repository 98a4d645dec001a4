-- `arguments::source` meets its contract.
use Rattle.arguments.specs.ArgumentList.{source_of}
use Rattle.arguments.proofs.source.Goals as goal

pub returns-then-p : goal.returns-then-p
unfolding source_of
returns-then-p c = simp c.if-p.true c.pass_on.ensures

pub returns-else-p : goal.returns-else-p
unfolding source_of
returns-else-p c = simp c.if-p.false
