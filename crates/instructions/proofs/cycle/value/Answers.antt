-- `instructions::cycle::value` meets its contract.
use borrow.Author.Tests.{eq-eqb, ne_eqb}
use Rattle.instructions.specs.Instruction.{value_of}
use Rattle.instructions.proofs.cycle.value.Goals as goal

pub returns-then-opcode-eq2 : goal.returns-then-opcode-eq2
unfolding value_of
returns-then-opcode-eq2 c = simp (eq-eqb _ _ c.if-opcode-eq2.true)

pub returns : goal.returns
unfolding value_of
returns c = simp (ne_eqb _ _ c.if-opcode-eq2.false) (rw c.pointer_at.ensures at c.pack.ensures)
