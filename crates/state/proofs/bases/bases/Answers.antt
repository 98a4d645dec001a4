-- `state::bases::bases` meets its contract.
use Prim.Native.Nat.{◌-◌, ◌<◌}
use native.Mathlib.Omega.{arith}
use mathlib.Core.Path.{◌≡◌, refl, sym}
use borrow.Author.Rules.{rules}
use Rattle.state.proofs.Sums.{found-next, found_all, base-zero}
use Rattle.state.proofs.bases.bases.Goals as goal

pub loop-i-init : goal.loop-i-init
loop-i-init c =
    record {
      some = search rules;
      most = search rules;
      room = refl;
      values = λ k h. let z : k ≡ 0 = omega arith in rw z (sym (base-zero _));
      small = λ k h. let z : k ≡ 0 = omega arith in rw (z, base-zero c.as_slice-lengths.result.now) (omega arith);
    }

pub overflow_add-sums : goal.overflow_add-sums
overflow_add-sums c =
    let p : c.loop-i.i - 1 < c.loop-i.i = omega arith in
    omega (arith, c.loop-i.invariant.values _ p, c.loop-i.invariant.small _ p, c.type_inv.lengths (c.loop-i.i - 1))

pub loop-i-preserved : goal.loop-i-preserved
loop-i-preserved c =
    found-next _ _ _ _ _ c.loop-i.invariant c.loop-i-test.true refl refl (omega (arith, c.type_inv.lengths (c.loop-i.i - 1)))

pub returns : goal.returns
returns c = rw (← c.as_slice-lengths.ensures) (found_all _ _ _ c.loop-i-test.false c.loop-i.invariant)
