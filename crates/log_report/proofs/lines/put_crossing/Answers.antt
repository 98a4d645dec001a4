-- `log_report::lines::put_crossing` meets its contract.
use Prim.Native.Nat.{ℕ, ◌<◌}
use native.Mathlib.Omega.{arith}
use lib.ListN.{get_or}
use Rattle.log_theorems.specs.ReadBack.{crossing_at}
use Rattle.log_report.proofs.LogLines.{crossing-puts, at_most}
use Rattle.log_report.proofs.lines.put_crossing.Goals as goal

pub returns : goal.returns
returns c =
    let a = c.args in
    let x = crossing_at a.log.now a.from in
    let byte : (i : ℕ) → get_or a.log.now i 0 < 256 = λ i. omega (arith, c.type_inv.log i) in
    let most = at_most a.log.now byte a.from in
    let p = crossing-puts x a.output.now _ _ _ _ a.at _ _ _ _ (omega (arith, c.requires.at_in_bounds, most))
    (c.put_kind-first.ensures.value, c.put_kind-first.ensures.output_after) (c.put_field-second.ensures.value, c.put_field-second.ensures.output_after)
    (c.put_field-third.ensures.value, c.put_field-third.ensures.output_after) (c.put_line.ensures.value, c.put_line.ensures.output_after) in
    record { value = p.0; output_after = p.1 }
