-- `instructions::opcodes::is_load` meets its contract.
use borrow.Author.Tests.{eq-eqb, ne_eqb}
use Rattle.instructions.specs.Instruction.{is_load}
use Rattle.instructions.proofs.opcodes.is_load.Goals as goal

pub returns-then-opcode-eq1 : goal.returns-then-opcode-eq1
unfolding is_load
returns-then-opcode-eq1 c = simp (eq-eqb _ _ c.if-opcode-eq1.true)

pub returns-then-opcode-eq3 : goal.returns-then-opcode-eq3
unfolding is_load
returns-then-opcode-eq3 c = simp (ne_eqb _ _ c.if-opcode-eq1.false, eq-eqb _ _ c.if-opcode-eq3.true)

pub returns : goal.returns
unfolding is_load
returns c = simp (ne_eqb _ _ c.if-opcode-eq1.false, ne_eqb _ _ c.if-opcode-eq3.false)
