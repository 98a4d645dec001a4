-- `state::bases::bases` meets its contract.
use Rattle.state.proofs.Sums.{Found}
use Rattle.state.proofs.bases.bases.Given as goal

abbrev pub invariant-loop-i : goal.invariant-loop-i
invariant-loop-i l = Found l.lengths l.sums l.i
