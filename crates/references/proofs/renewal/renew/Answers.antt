-- `references::renewal::renew` meets its contract.
use Rattle.references.specs.Made.{renewed}
use Rattle.references.proofs.renewal.renew.Goals as goal

-- src/renewal.rt:48:1
pub returns-then-p : goal.returns-then-p
unfolding renewed
returns-then-p c = simp (c.if-p.true, ← c.is_read.ensures) c.refer.ensures

-- src/renewal.rt:48:1
pub returns-else-p : goal.returns-else-p
unfolding renewed
returns-else-p c = simp c.if-p.false
