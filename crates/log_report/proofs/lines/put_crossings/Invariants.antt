-- `log_report::lines::put_crossings` meets its contract.
use Prim.Native.Nat.{◌*◌}
use Rattle.image_format.proofs.Written.{RowsPut}
use Rattle.log_report.specs.LogText.{crossing_line}
use Rattle.log_theorems.specs.ReadBack.{crossing_at}
use Rattle.log_report.proofs.lines.put_crossings.Given as goal

abbrev pub invariant-loop-i : goal.invariant-loop-i
invariant-loop-i l = RowsPut crossing_line (λ i. crossing_at l.log (i * 6)) l.initial.output 0 l.count l.output l.at l.i
