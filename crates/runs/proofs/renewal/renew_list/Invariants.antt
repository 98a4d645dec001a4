-- `runs::renewal::renew_list` meets its contract.
use Rattle.lent_registers.specs.Columns.{registers_of}
use Rattle.runs.proofs.Lists.{Listing}
use Rattle.runs.proofs.renewal.renew_list.Given as goal

abbrev pub invariant-loop-i : goal.invariant-loop-i
invariant-loop-i l = Listing l.view.depth l.view.frame l.a l.k (registers_of l.initial.recent) l.i (registers_of l.recent)
