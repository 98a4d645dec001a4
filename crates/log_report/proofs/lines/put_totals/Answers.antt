-- `log_report::lines::put_totals` meets its contract.
use native.Mathlib.Omega.{arith}
use Rattle.log_report.proofs.LogLines.{totals-most, totals-puts}
use Rattle.log_report.proofs.lines.put_totals.Goals as goal

pub returns : goal.returns
returns c =
    let a = c.args in
    let most = totals-most a.calls a.returns (omega (arith, c.ranges.calls)) (omega (arith, c.ranges.returns)) in
    let p = totals-puts a.calls a.returns a.output.now _ _ a.at _ _ (omega (arith, c.requires, most))
    (c.put_field-next.ensures.value, c.put_field-next.ensures.output_after) (c.put_line.ensures.value, c.put_line.ensures.output_after) in
    record { value = p.0; output_after = p.1; upper_bound = omega (arith, p.0, most) }
