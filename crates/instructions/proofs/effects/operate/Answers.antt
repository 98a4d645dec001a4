-- `instructions::effects::operate` meets its contract.
use borrow.Author.Tests.{eq-eqb, ne_eqb}
use Rattle.instructions.proofs.effects.operate.Goals as goal

pub returns-then-opcode-eq1 : goal.returns-then-opcode-eq1
returns-then-opcode-eq1 c = simp (eq-eqb _ _ c.if-opcode-eq1.true)

pub returns-then-opcode-eq3 : goal.returns-then-opcode-eq3
returns-then-opcode-eq3 c = simp (ne_eqb _ _ c.if-opcode-eq1.false, eq-eqb _ _ c.if-opcode-eq3.true) c.sum.ensures

pub returns : goal.returns
returns c = simp (ne_eqb _ _ c.if-opcode-eq1.false, ne_eqb _ _ c.if-opcode-eq3.false) c.difference.ensures
