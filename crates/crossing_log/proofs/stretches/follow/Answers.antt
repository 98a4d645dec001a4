-- `crossing_log::stretches::follow` meets its contract. The invariant: the logged run that the definition gives has come to the record that the locals hold, its words, the log and the totals.
use borrow.Author.Tests.{lt-ltb, le-ltb}
use Prim.Native.Nat.{◌+◌, ◌<◌, ◌≤◌}
use native.Mathlib.Omega.{arith}
use mathlib.Core.Path.{sym}
use Rattle.crossing_log.proofs.TurnLaws.{starts, counted, same_after, ends, some, fits, called_on, returned-on}
use Rattle.crossing_log.proofs.stretches.follow.Goals as goal

pub overflow_add-n : goal.overflow_add-n
overflow_add-n c =
    let counts : c.loop-called.n + c.run_judged-o.result.count ≤ 1000 = counted _ _ _ _ _ _ _ _ _ c.loop-called.invariant c.requires.in_bounds c.run_judged-o.result _ c.run_judged-o.ensures in
    omega (arith, counts)

pub loop-called-preserved-then-called : goal.loop-called-preserved-then-called
loop-called-preserved-then-called c =
    called_on _ _ _ _ _ _ _ _ _ c.loop-called.invariant c.requires.in_bounds c.run_judged-o.result _ c.run_judged-o.ensures c.in-Crossed.is _ c.put_crossing.ensures (lt-ltb _ _ c.if-called.true)

pub loop-called-preserved : goal.loop-called-preserved
loop-called-preserved c =
    returned-on _ _ _ _ _ _ _ _ _ c.loop-called.invariant c.requires.in_bounds c.run_judged-o.result _ c.run_judged-o.ensures c.in-Crossed.is _ c.put_crossing.ensures (le-ltb _ _ c.if-called.false)

pub returns-in_default : goal.returns-in_default
returns-in_default c =
    sym (ends _ _ _ _ _ _ _ _ _ c.loop-called.invariant c.requires.in_bounds c.run_judged-o.result _ c.run_judged-o.ensures c.in_default.not-Crossed)

pub loop-called-init : goal.loop-called-init
loop-called-init c = starts _ _ _ c.requires.sound_record

pub overflow_sub-n : goal.overflow_sub-n
overflow_sub-n c = c.loop-called.invariant.within

pub run_judged-o-requires : goal.run_judged-o-requires
run_judged-o-requires c = tt

pub overflow_add-calls : goal.overflow_add-calls
overflow_add-calls c =
    let counts : c.loop-called.n + c.run_judged-o.result.count ≤ 1000 = counted _ _ _ _ _ _ _ _ _ c.loop-called.invariant c.requires.in_bounds c.run_judged-o.result _ c.run_judged-o.ensures in
    let one : 1 ≤ c.run_judged-o.result.count = some _ _ _ _ _ _ _ _ _ c.loop-called.invariant c.requires.in_bounds c.run_judged-o.result _ c.run_judged-o.ensures c.in-Crossed.is in
    let few : c.loop-called.calls + c.loop-called.returns < 1000 = omega (arith, one, counts, c.loop-called.invariant.made) in
    omega (arith, few)

pub overflow_cast-calls : goal.overflow_cast-calls
overflow_cast-calls c =
    let counts : c.loop-called.n + c.run_judged-o.result.count ≤ 1000 = counted _ _ _ _ _ _ _ _ _ c.loop-called.invariant c.requires.in_bounds c.run_judged-o.result _ c.run_judged-o.ensures in
    let one : 1 ≤ c.run_judged-o.result.count = some _ _ _ _ _ _ _ _ _ c.loop-called.invariant c.requires.in_bounds c.run_judged-o.result _ c.run_judged-o.ensures c.in-Crossed.is in
    let few : c.loop-called.calls + c.loop-called.returns < 1000 = omega (arith, one, counts, c.loop-called.invariant.made) in
    omega (arith, few)

pub overflow_mul-calls : goal.overflow_mul-calls
overflow_mul-calls c =
    let counts : c.loop-called.n + c.run_judged-o.result.count ≤ 1000 = counted _ _ _ _ _ _ _ _ _ c.loop-called.invariant c.requires.in_bounds c.run_judged-o.result _ c.run_judged-o.ensures in
    let one : 1 ≤ c.run_judged-o.result.count = some _ _ _ _ _ _ _ _ _ c.loop-called.invariant c.requires.in_bounds c.run_judged-o.result _ c.run_judged-o.ensures c.in-Crossed.is in
    let few : c.loop-called.calls + c.loop-called.returns < 1000 = omega (arith, one, counts, c.loop-called.invariant.made) in
    omega (arith, few)

pub put_crossing-requires : goal.put_crossing-requires
put_crossing-requires c = fits _ _ _ _ _ _ _ _ _ c.loop-called.invariant c.requires.in_bounds c.run_judged-o.result _ c.run_judged-o.ensures c.in-Crossed.is

pub overflow_add-calls-then-called : goal.overflow_add-calls-then-called
overflow_add-calls-then-called c =
    let counts : c.loop-called.n + c.run_judged-o.result.count ≤ 1000 = counted _ _ _ _ _ _ _ _ _ c.loop-called.invariant c.requires.in_bounds c.run_judged-o.result _ c.run_judged-o.ensures in
    let one : 1 ≤ c.run_judged-o.result.count = some _ _ _ _ _ _ _ _ _ c.loop-called.invariant c.requires.in_bounds c.run_judged-o.result _ c.run_judged-o.ensures c.in-Crossed.is in
    let few : c.loop-called.calls + c.loop-called.returns < 1000 = omega (arith, one, counts, c.loop-called.invariant.made) in
    omega (arith, few)

pub loop-called-smaller-then-called : goal.loop-called-smaller-then-called
loop-called-smaller-then-called c =
    let counts : c.loop-called.n + c.run_judged-o.result.count ≤ 1000 = counted _ _ _ _ _ _ _ _ _ c.loop-called.invariant c.requires.in_bounds c.run_judged-o.result _ c.run_judged-o.ensures in
    let one : 1 ≤ c.run_judged-o.result.count = some _ _ _ _ _ _ _ _ _ c.loop-called.invariant c.requires.in_bounds c.run_judged-o.result _ c.run_judged-o.ensures c.in-Crossed.is in
    omega (arith, one, counts)

pub overflow_add-returns : goal.overflow_add-returns
overflow_add-returns c =
    let counts : c.loop-called.n + c.run_judged-o.result.count ≤ 1000 = counted _ _ _ _ _ _ _ _ _ c.loop-called.invariant c.requires.in_bounds c.run_judged-o.result _ c.run_judged-o.ensures in
    let one : 1 ≤ c.run_judged-o.result.count = some _ _ _ _ _ _ _ _ _ c.loop-called.invariant c.requires.in_bounds c.run_judged-o.result _ c.run_judged-o.ensures c.in-Crossed.is in
    let few : c.loop-called.calls + c.loop-called.returns < 1000 = omega (arith, one, counts, c.loop-called.invariant.made) in
    omega (arith, few)

pub loop-called-smaller : goal.loop-called-smaller
loop-called-smaller c =
    let counts : c.loop-called.n + c.run_judged-o.result.count ≤ 1000 = counted _ _ _ _ _ _ _ _ _ c.loop-called.invariant c.requires.in_bounds c.run_judged-o.result _ c.run_judged-o.ensures in
    let one : 1 ≤ c.run_judged-o.result.count = some _ _ _ _ _ _ _ _ _ c.loop-called.invariant c.requires.in_bounds c.run_judged-o.result _ c.run_judged-o.ensures c.in-Crossed.is in
    omega (arith, one, counts)

pub shape_of-words-in_default : goal.shape_of-words-in_default
shape_of-words-in_default c = same_after _ _ _ _ _ _ _ _ _ c.loop-called.invariant c.requires.in_bounds c.run_judged-o.result _ c.run_judged-o.ensures

pub shape_of-log-in_default : goal.shape_of-log-in_default
shape_of-log-in_default c = c.loop-called.invariant.room
