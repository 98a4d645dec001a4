-- `host::looks::place` meets its contract.
use Prim.Native.Nat.{◌≤◌}
use native.Mathlib.Omega.{arith}
use mathlib.Core.Path.{refl, ap, ◌∙◌}
use lib.ListN.{length}
use Rattle.words.specs.Refusal.{answer_of}
use Rattle.words.proofs.Results.{handed_on}
use Rattle.segments.proofs.Parts.{Given, given}
use Rattle.held_runs.proofs.OpenLaws.{opened-refused, opened-ok}
use Rattle.host.proofs.LookLaws.{place-refused, place-judged, place-made, bounds}
use Rattle.host.proofs.looks.place.Goals as goal
use Rattle.host.proofs.looks.place.Goals.{After-span-s}

pub returns-in_err-form_number : goal.returns-in_err-form_number
returns-in_err-form_number c =
    let a = c.args in
    ap answer_of (handed_on c.from_residual.result _ c.from_residual.ensures.1) ∙ place-refused a.bytes.now (length a.words.now) a.segment _ (opened-refused _ _ c.in_err-form_number.ensures)

pub returns-in_err-segment_number : goal.returns-in_err-segment_number
returns-in_err-segment_number c =
    let a = c.args in
    ap answer_of (handed_on c.from_residual-in_err-segment_number.result _ c.from_residual-in_err-segment_number.ensures.1) ∙ place-judged a.bytes.now (length a.words.now) a.segment _ _ (opened-ok _ _ c.in_ok-form_number.ensures c.record_or_empty-m.ensures) c.in_err-segment_number.ensures

known : (c : After-span-s) → Given c.record_or_empty-m.result (length c.args.words.now) c.args.segment
known c = given _ _ _ _ c.in_ok-segment_number.ensures refl

bounded : (c : After-span-s) → (c.span-s.result.from ≤ c.span-s.result.to) × (c.span-s.result.to ≤ 8192)
bounded c = bounds _ _ _ _ _ (known c) c.span-s.ensures.from_value.0 c.span-s.ensures.from_value.1

pub overflow_cast-result : goal.overflow_cast-result
overflow_cast-result c = record { fits = omega (arith, bounded (goal.at.overflow_cast-result c).After-span-s) }

pub overflow_sub-result : goal.overflow_sub-result
overflow_sub-result c = omega (arith, bounded (goal.at.overflow_sub-result c).After-span-s)

pub overflow_cast-result-2 : goal.overflow_cast-result-2
overflow_cast-result-2 c = record { fits = omega (arith, bounded (goal.at.overflow_cast-result-2 c).After-span-s) }

pub returns : goal.returns
returns c =
    let a = c.args in
    let s = c.span-s.ensures.from_value in
    place-made a.bytes.now (length a.words.now) a.segment _ _ _ (opened-ok _ _ c.in_ok-form_number.ensures c.record_or_empty-m.ensures) (known (goal.at.returns c).After-span-s) s.0 s.1
