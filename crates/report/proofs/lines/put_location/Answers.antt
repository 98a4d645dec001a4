-- `report::lines::put_location` meets its contract.
use native.Mathlib.Omega.{arith}
use mathlib.Core.List.{[], ◌∷◌, ◌++◌}
use lib.ListN.{length-append}
use Rattle.text.specs.Text.{text, labelled}
use Rattle.text.proofs.Decimals.{labelled-most}
use Rattle.text.proofs.Puts.{within-puts, puts_then}
use Rattle.report.proofs.lines.put_location.Goals as goal

pub returns : goal.returns
returns c =
    let a = c.args in
    let out = a.output.now in
    let first = labelled (text "at ") a.segment in
    let second = labelled (32 ∷ []) a.word in
    let j = labelled-most (text "at ") a.segment (omega (arith, c.ranges.segment)) in
    let k = labelled-most (32 ∷ []) a.word (omega (arith, c.ranges.word)) in
    let e = length-append first second in
    let l = length-append (first ++ second) (10 ∷ []) in
    let p = within-puts out _ a.at _ first (omega (arith, c.requires, j)) (c.put_field-first.ensures.value, c.put_field-first.ensures.output_after) in
    let q = puts_then out _ _ a.at _ _ first second (omega (arith, c.requires, e, j, k)) p (c.put_field-second.ensures.value, c.put_field-second.ensures.output_after) in
    let w = puts_then out _ _ a.at _ _ (first ++ second) (10 ∷ []) (omega (arith, c.requires, l, e, j, k)) q (c.put_text.ensures.value, c.put_text.ensures.output_after) in
    record { value = w.0; output_after = w.1; upper_bound = omega (arith, w.0, l, e, j, k) }
