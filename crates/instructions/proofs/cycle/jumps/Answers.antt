-- `instructions::cycle::jumps` meets its contract.
use mathlib.Core.Path.{refl}
use borrow.Author.Tests.{ne_eqb}
use Rattle.instructions.specs.Instruction.{taken_of}
use Rattle.instructions.specs.Private.{jumps_of}
use Rattle.instructions.proofs.cycle.jumps.Goals as goal

pub returns-in-7 : goal.returns-in-7
unfolding jumps_of
returns-in-7 c = rw c.in-7.is refl

pub returns-in-9 : goal.returns-in-9
unfolding jumps_of
returns-in-9 c = rw c.in-9.is refl

pub returns-in-10 : goal.returns-in-10
unfolding jumps_of taken_of
returns-in-10 c = rw c.in-10.is refl

pub returns-in-11 : goal.returns-in-11
unfolding jumps_of taken_of
returns-in-11 c = rw c.in-11.is refl

pub returns-in_default : goal.returns-in_default
unfolding jumps_of taken_of
returns-in_default c =
    let n = c.in_default.in_default-own.rest in
    simp (ne_eqb _ _ n.0.0.0.1, ne_eqb _ _ n.0.0.1, ne_eqb _ _ n.0.1, ne_eqb _ _ n.1)
