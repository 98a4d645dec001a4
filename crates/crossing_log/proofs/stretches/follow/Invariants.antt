-- `crossing_log::stretches::follow` meets its contract. The invariant: the logged run that the definition gives has come to the record that the locals hold, its words, the log and the totals.
use Prim.Native.Nat.{◌-◌}
use Rattle.crossing_log.proofs.TurnLaws.{Follows}
use Rattle.crossing_log.proofs.stretches.follow.Given as goal

abbrev pub invariant-loop-called : goal.invariant-loop-called
invariant-loop-called l = Follows l.initial.machine l.initial.words l.initial.log l.machine l.words l.log l.n l.calls l.returns

abbrev pub decreases-loop-called : goal.decreases-loop-called
decreases-loop-called l = 1000 - l.n
