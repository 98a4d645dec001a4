-- `report::report` meets its contract.
use Prim.Native.Nat.{ℕ}
use native.Mathlib.Omega.{arith}
use native.Mathlib.Nat.{zero-add}
use mathlib.Core.List.{◌++◌}
use mathlib.Core.Path.{sym, ◌∙◌}
use lib.ListN.{replicate, length-replicate}
use Rattle.text.specs.Text.{line}
use Rattle.report.specs.Report.{end_text, rest_text}
use Rattle.text.proofs.Puts.{puts-more, printed-counts}
use Rattle.report.proofs.Reports.{printed, report-refused, report-passed}
use Rattle.runs.specs.Run.{end_answer}
use Rattle.report.proofs.report.Goals as goal

pub returns-in-Refused : goal.returns-in-Refused
returns-in-Refused c =
    let p = c.put_end-at.ensures in
    record {
      value = printed _ _ _ _ (report-refused c.args.image.now c.run_image-o.result c.run_image-o.ensures _ c.in-Refused.is) p.value p.output_after;
      length_in_bounds = printed-counts 96 _ _ _ (omega (arith, p.upper_bound)) p.value p.output_after;
    }

pub returns-in_default : goal.returns-in_default
returns-in_default c =
    let o = c.run_image-o.result in
    let p = c.put_end-at.ensures in
    let q = c.put_rest-next.ensures in
    let xs = line (end_text (end_answer o.end)) in
    let ys = rest_text o.count o.machine.registers in
    let all = puts-more (replicate 96 0) _ _ 0 _ _ xs ys (p.value ∙ sym (zero-add _), p.output_after) (q.value, q.output_after) (omega (arith, p.value, p.upper_bound, length-replicate {A = ℕ} 96 0)) in
    let l = all.0 ∙ zero-add _ in
    record {
      value = printed (xs ++ ys) _ _ _ (report-passed c.args.image.now o c.run_image-o.ensures c.in_default.not-Refused) l all.1;
      length_in_bounds = printed-counts 96 (xs ++ ys) _ _ (omega (arith, p.upper_bound, q.upper_bound)) l all.1;
    }
