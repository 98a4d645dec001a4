-- `log_report::log_report` meets its contract.
use Prim.Native.Nat.{ℕ, ◌+◌, ◌≤◌}
use native.Mathlib.Omega.{arith}
use native.Mathlib.Nat.{zero-add}
use mathlib.Core.List.{◌++◌}
use mathlib.Core.Path.{sym, ◌∙◌}
use lib.ListN.{length, replicate, length-replicate}
use Rattle.words.specs.Refusal.{number}
use Rattle.image_format.specs.Bytes.{joined}
use Rattle.text.specs.Text.{text, labelled, line}
use Rattle.text.proofs.Decimals.{line-most}
use Rattle.text.proofs.Puts.{within-puts, puts-more, printed-counts}
use Rattle.log_report.specs.LogText.{crossing_line, totals_text}
use Rattle.log_theorems.specs.ReadBack.{records_in}
use Rattle.log_report.proofs.LogPrints.{log-printed, prints-refused, prints-few, prints-log}
use Rattle.log_report.proofs.log_report.Goals as goal
use Rattle.log_report.proofs.log_report.Goals.{In-Ok}

pub returns-in-Err : goal.returns-in-Err
returns-in-Err c =
    let image = c.args.image.now in
    let n = number c.in-Err.refusal in
    let xs = line (labelled (text "refused ") n) in
    let most = line-most (text "refused ") n (omega arith) in
    let p = within-puts (replicate 25026 0) _ 0 _ xs (omega (arith, most, length-replicate {A = ℕ} 25026 0)) (rw c.number.ensures at c.put_line-end.ensures.value, rw c.number.ensures at c.put_line-end.ensures.output_after) in
    let l = p.0 ∙ zero-add (length xs) in
    record {
      value = log-printed xs _ _ _ (prints-refused image n c.in-Err.ensures.value) l p.1;
      length_in_bounds = printed-counts 25026 xs _ _ (omega (arith, p.0, most)) l p.1;
    }

-- at most 1,000 crossings
few : (c : In-Ok) → c.in-Ok.t.calls + c.in-Ok.t.returns ≤ 1000
few c = prints-few c.args.image.now c.in-Ok.t c.in-Ok.ensures.value _ _ c.log_image.ensures.log_after

pub overflow_add-t : goal.overflow_add-t
overflow_add-t c = record { fits = omega (arith, few (goal.at.overflow_add-t c).In-Ok) }

pub put_crossings-at-requires : goal.put_crossings-at-requires
put_crossings-at-requires c =
    let most = few (goal.at.put_crossings-at-requires c).In-Ok in
    record { count_in_bounds = omega (arith, most, length-replicate {A = ℕ} 25026 0); count_in_bounds_2 = omega (arith, most, c.log_image.auto.log, length-replicate {A = ℕ} 6000 0) }

pub put_totals-end-requires : goal.put_totals-end-requires
put_totals-end-requires c =
    omega (arith, few (goal.at.put_totals-end-requires c).In-Ok, c.put_crossings-at.ensures.upper_bound, c.put_crossings-at.auto.output, length-replicate {A = ℕ} 25026 0)

pub returns-in-Ok : goal.returns-in-Ok
returns-in-Ok c =
    let image = c.args.image.now in
    let t = c.in-Ok.t in
    let most = few (goal.at.returns-in-Ok c).In-Ok in
    let p = c.put_crossings-at.ensures in
    let q = c.put_totals-end.ensures in
    let xs = joined crossing_line (records_in (t.calls + t.returns) c.log_image.new.log) in
    let ys = totals_text t.calls t.returns in
    let all = puts-more (replicate 25026 0) _ _ 0 _ _ xs ys (p.value ∙ sym (zero-add (length xs)), p.output_after) (q.value, q.output_after) (omega (arith, p.value, p.upper_bound, most, length-replicate {A = ℕ} 25026 0)) in
    let l = all.0 ∙ zero-add (length (xs ++ ys)) in
    record {
      value = log-printed (xs ++ ys) _ _ _ (prints-log image t c.in-Ok.ensures.value _ _ c.log_image.ensures.log_after) l all.1;
      length_in_bounds = printed-counts 25026 (xs ++ ys) _ _ (omega (arith, p.upper_bound, q.upper_bound, most)) l all.1;
    }
