-- `transfers::jump_check` meets its contract.
use Rattle.transfers.specs.Transfer.{jump_check}
use Rattle.transfers.proofs.jump_check.Goals as goal

pub returns-then-p : goal.returns-then-p
unfolding jump_check
returns-then-p c = simp c.if-p.true

pub returns-else-p : goal.returns-else-p
unfolding jump_check
returns-else-p c = simp c.if-p.false c.static_check.ensures
