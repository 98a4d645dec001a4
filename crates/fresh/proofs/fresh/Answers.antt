-- `fresh::fresh` meets its contract.
use native.Mathlib.Omega.{arith}
use Rattle.fresh.specs.Fresh.{fresh_of}
use Rattle.fresh.proofs.fresh.Goals as goal

pub returns : goal.returns
unfolding fresh_of
returns c = cc (c.get.ensures.lookup.4 (omega arith) 0)
