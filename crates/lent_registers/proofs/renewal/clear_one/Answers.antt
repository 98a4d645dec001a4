use borrow.Author.Tests.{eq-eqb, ne_eqb}
use Rattle.lent_registers.proofs.renewal.clear_one.Goals as goal

pub returns-then-recent-i : goal.returns-then-recent-i
returns-then-recent-i c = rw (eq-eqb _ _ c.if-recent-i.true) c.put.ensures

pub returns-else-recent-i : goal.returns-else-recent-i
returns-else-recent-i c = rw (ne_eqb _ _ c.if-recent-i.false) c.renumber.ensures
