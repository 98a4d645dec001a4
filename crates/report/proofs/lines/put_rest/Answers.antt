-- `report::lines::put_rest` meets its contract.
use Prim.Native.Nat.{ℕ, ◌≤◌}
use native.Mathlib.Omega.{arith}
use mathlib.Core.List.{List, [], ◌∷◌, ◌++◌}
use lib.ListN.{length, length-append}
use Rattle.text.specs.Text.{text, labelled, line}
use Rattle.report.specs.Report.{rest_text}
use Rattle.text.proofs.Decimals.{line-most}
use Rattle.text.proofs.Puts.{Puts, within-puts, puts-more, puts_then}
use Rattle.report.proofs.lines.put_rest.Goals as goal
use Rattle.report.proofs.lines.put_rest.Goals.{After-put_line-second}

-- the lines before the location's
abbrev two_lines : ℕ → ℕ → List ℕ
two_lines count domain = line (labelled (text "count ") count) ++ line (labelled (text "domain ") domain)

-- they are put, and end at the place for the location
first_two : (m : After-put_line-second) → let a = m.args in
    Puts a.output.now m.put_line-second.new.output a.at m.put_line-second.result (two_lines a.count a.r.domain) × (length (two_lines a.count a.r.domain) ≤ 35)
first_two m =
    let a = m.args in
    let xs = line (labelled (text "count ") a.count) in
    let ys = line (labelled (text "domain ") a.r.domain) in
    let j = line-most (text "count ") a.count (omega (arith, m.ranges.count)) in
    let k = line-most (text "domain ") a.r.domain (omega (arith, m.well_formed.1.1.1.0.1.1.1.1.1.0)) in
    let e = length-append xs ys in
    let p = within-puts a.output.now _ a.at _ xs (omega (arith, m.requires, j)) (m.put_line-first.ensures.value, m.put_line-first.ensures.output_after) in
    (puts_then a.output.now _ _ a.at _ _ xs ys (omega (arith, m.requires, e, j, k)) p (m.put_line-second.ensures.value, m.put_line-second.ensures.output_after), omega (arith, e, j, k))

pub put_location-third-requires : goal.put_location-third-requires
put_location-third-requires c =
    let p = first_two (goal.at.put_location-third-requires c).After-put_line-second in
    omega (arith, c.requires, p.1, p.0.0, c.put_line-second.auto.output)

pub returns : goal.returns
unfolding rest_text
returns c =
    let a = c.args in
    let out = a.output.now in
    let two = two_lines a.count a.r.domain in
    let third = line (labelled (text "at ") a.r.segment ++ labelled (32 ∷ []) a.r.word) in
    let fourth = line (labelled (text "a ") a.r.a) in
    let k = line-most (text "a ") a.r.a (omega (arith, c.well_formed.1.1.1.0.1.1.0)) in
    let e = length-append (two ++ third) fourth in
    let p = first_two (goal.at.returns c).After-put_line-second in
    let z = c.put_location-third.ensures in
    let q = puts-more out _ _ a.at _ _ two third p.0 (z.value, z.output_after) (omega (arith, c.requires, p.1)) in
    let w = puts_then out _ _ a.at _ _ (two ++ third) fourth (omega (arith, c.requires, q.0, p.0.0, p.1, z.upper_bound, e, k)) q (c.put_line.ensures.value, c.put_line.ensures.output_after) in
    record { value = w.0; output_after = w.1; upper_bound = omega (arith, w.0, q.0, p.0.0, p.1, z.upper_bound, e, k) }
