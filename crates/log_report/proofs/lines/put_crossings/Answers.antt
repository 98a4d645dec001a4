-- `log_report::lines::put_crossings` meets its contract.
use native.Mathlib.Omega.{arith}
use native.Mathlib.Nat.{zero-add}
use mathlib.Core.Path.{◌∙◌}
use Rattle.image_format.proofs.Written.{put-none, put-length, put-done, put_next}
use Rattle.log_report.proofs.LogLines.{lines-most}
use Rattle.log_report.proofs.lines.put_crossings.Goals as goal

pub loop-i-init : goal.loop-i-init
loop-i-init c =
    put-none (omega (arith, c.requires.count_in_bounds, lines-most c.args.log.now (λ i. omega (arith, c.type_inv.log i)) 0 c.args.count))

pub put_crossing-at-requires : goal.put_crossing-at-requires
put_crossing-at-requires c =
    let most = lines-most c.args.log.now (λ i. omega (arith, c.type_inv.log i)) 0 c.loop-i.i in
    record { at_in_bounds = omega (arith, c.requires.count_in_bounds, most, c.loop-i.invariant.at-is, put-length c.loop-i.invariant, c.loop-i-test.true); from_in_bounds = omega (arith, c.requires.count_in_bounds_2, c.loop-i-test.true) }

pub loop-i-preserved : goal.loop-i-preserved
loop-i-preserved c =
    put_next c.loop-i.invariant c.loop-i-test.true c.put_crossing-at.ensures.output_after c.put_crossing-at.ensures.value

pub returns : goal.returns
returns c =
    let p = put-done c.loop-i.invariant c.loop-i-test.false in
    record { value = p.0 ∙ zero-add _; output_after = p.1; upper_bound = omega (arith, p.0, lines-most c.args.log.now (λ i. omega (arith, c.type_inv.log i)) 0 c.args.count) }

pub shape_of-output : goal.shape_of-output
shape_of-output c = put-length c.loop-i.invariant
