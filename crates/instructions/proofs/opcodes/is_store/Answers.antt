-- `instructions::opcodes::is_store` meets its contract.
use borrow.Author.Tests.{eq-eqb, ne_eqb}
use Rattle.instructions.specs.Instruction.{is_store}
use Rattle.instructions.proofs.opcodes.is_store.Goals as goal

pub returns-then-opcode-eq2 : goal.returns-then-opcode-eq2
unfolding is_store
returns-then-opcode-eq2 c = simp (eq-eqb _ _ c.if-opcode-eq2.true)

pub returns : goal.returns
unfolding is_store
returns c = simp (ne_eqb _ _ c.if-opcode-eq2.false)
