-- `recent::entering::may_enter` meets its contract.
use Rattle.std.proofs.Common.{take, length}
use Rattle.recent.specs.Entering.{may_enter}
use Rattle.recent.proofs.Walk.{Left}
use Rattle.recent.proofs.entering.may_enter.Given as goal

abbrev pub invariant-loop-x : goal.invariant-loop-x
invariant-loop-x l =
    let rows = take l.count l.fn.capabilities in
    (goal.iterator-loop-x).can_next l.x-iterator × (goal.iterator-loop-x).is_finite l.x-iterator × Left (λ xs. may_enter xs l.c) (may_enter rows l.c) rows (length l.yielded)
