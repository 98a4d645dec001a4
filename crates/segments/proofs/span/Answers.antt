-- `segments::span` meets its contract.
use native.Mathlib.Omega.{arith}
use Prim.Native.Nat.{ℕ}
use mathlib.Core.List.{List}
use mathlib.Core.Path.{◌≡◌, sym, ap, ◌∙◌}
use lib.ListN.{get_or}
use Rattle.state.specs.Bases.{base_of}
use Rattle.state.proofs.Sums.{bases-at}
use Rattle.segments.proofs.Parts.{Given, none, some, starts, sized}
use Rattle.segments.proofs.span.Goals as goal
use Rattle.segments.proofs.span.Goals.{After-bases-places}

pub returns-then-is_err : goal.returns-then-is_err
returns-then-is_err c =
    let a = c.args in
    let h = none a.m a.size a.number _ c.judge.ensures (sym c.is_err.ensures.value ∙ c.if-is_err.true) in
    record { from_value = (omega (arith, h), omega (arith, h)); to_le_size = omega arith }

-- what a judgement that refuses nothing says of the segment
seen : (c : After-bases-places) → Given c.args.m c.args.size c.args.number
seen c = some _ _ _ _ c.judge.ensures (sym c.is_err.ensures.value ∙ c.if-is_err.false)

-- where the code finds its base
placed : (c : After-bases-places) → get_or c.bases-places.result c.args.number 0 ≡ base_of c.args.m.layout.lengths c.args.number
placed c = ap (λ (places : List ℕ). get_or places c.args.number 0) c.bases-places.ensures ∙ bases-at _ _ (seen c).row

pub bounds-places-i : goal.bounds-places-i
bounds-places-i c = (seen c).row

pub bounds-lengths-i : goal.bounds-lengths-i
bounds-lengths-i c = (seen c).row

pub overflow_cast-to : goal.overflow_cast-to
overflow_cast-to c = omega (arith, (seen c).short)

pub overflow_add-to : goal.overflow_add-to
overflow_add-to c = omega (arith, (seen c).room, placed c)

pub returns : goal.returns
returns c =
    let a = c.args in
    let s = starts a.m a.size a.number (seen c) in
    let z = sized a.m a.size a.number (seen c) in
    record { from_value = (omega (arith, placed c, s), omega (arith, placed c, s, z)); to_le_size = omega (arith, placed c, (seen c).room) }
