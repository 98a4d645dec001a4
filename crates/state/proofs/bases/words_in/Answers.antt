-- `state::bases::words_in` meets its contract.
use Rattle.std.proofs.Common.{◌≡◌, length, arith}
use mathlib.Core.Path.{sym, ap}
use Rattle.state.proofs.Sums.{base-next, base-zero}
use Rattle.state.proofs.bases.words_in.Goals as goal

pub overflow_add-sum : goal.overflow_add-sum
overflow_add-sum c = omega (arith, c.told-lengths, ap length c.as_slice-length-items.ensures, c.type_inv.length-items c.loop-length.length-index)

pub loop-length-init : goal.loop-length-init
loop-length-init c = (sym (base-zero _), omega arith)

pub loop-length-preserved : goal.loop-length-preserved
loop-length-preserved c =
    let e = base-next c.args.lengths.now c.loop-length.length-index in
    (cc, omega (arith, c.type_inv.length-items c.loop-length.length-index))

pub returns : goal.returns
returns c =
    let e : c.loop-length.length-index ≡ 16 = omega (arith, c.told-lengths, ap length c.as_slice-length-items.ensures) in rw (← e) c.loop-length.invariant.0
