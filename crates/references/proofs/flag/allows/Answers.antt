-- `references::flag::allows` meets its contract.
use native.Mathlib.Nat.{div-one}
use Rattle.references.specs.Flag.{has}
use Rattle.references.proofs.flag.allows.Goals as goal

pub returns-in-Read : goal.returns-in-Read
unfolding has
returns-in-Read c = simp (c.in-Read.is, div-one)

pub returns-in-Write : goal.returns-in-Write
unfolding has
returns-in-Write c = simp c.in-Write.is

pub returns-in-Execute : goal.returns-in-Execute
unfolding has
returns-in-Execute c = simp c.in-Execute.is

pub returns-in-Gate : goal.returns-in-Gate
unfolding has
returns-in-Gate c = simp c.in-Gate.is
