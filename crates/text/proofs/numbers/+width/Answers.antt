-- `text::numbers::width` meets its contract.
use native.Mathlib.Omega.{arith}
use Prim.Native.Nat.{◌/◌}
use mathlib.Core.Path.{sym, ap}
use lib.ListN.{length}
use Rattle.text.proofs.Decimals.{decimal-one, decimal-most, more-size}
use Rattle.text.proofs.numbers.+width.Goals as goal

pub returns-then-n-lt10 : goal.returns-then-n-lt10
returns-then-n-lt10 t c = sym (ap length (decimal-one _ c.if-n-lt10.true))

pub overflow_add-result : goal.overflow_add-result
overflow_add-result t c =
    record { fits = omega (arith, c.width.ensures, decimal-most (c.args.n / 10) (omega (arith, c.ranges.n))) }

pub returns : goal.returns
returns t c = omega (arith, c.width.ensures, more-size c.args.n c.if-n-lt10.false)
