-- `text::numbers::put_digits` meets its contract.
use Prim.Native.Nat.{◌+◌, ◌/◌, ◌%◌, ◌<◌}
use native.Mathlib.Omega.{arith}
use mathlib.Core.List.{[]}
use mathlib.Core.Path.{refl, sym, ap, ◌∙◌}
use lib.ListN.{length}
use Rattle.image_format.specs.Output.{written}
use Rattle.image_format.proofs.Written.{written_none, then-byte}
use Rattle.text.specs.Text.{decimal}
use Rattle.text.proofs.Decimals.{decimal-one, decimal-more, more-size}
use Rattle.text.proofs.numbers.+put_digits.Goals as goal

pub bounds-output-at : goal.bounds-output-at
bounds-output-at t c = omega (arith, c.requires, ap length (decimal-one c.args.n c.if-n-lt10.true))

pub returns-then-n-lt10 : goal.returns-then-n-lt10
returns-then-n-lt10 t c =
    let a = c.args in
    let room : a.at < length a.output.now = omega (arith, c.requires, ap length (decimal-one a.n c.if-n-lt10.true)) in
    rw (decimal-one a.n c.if-n-lt10.true)
    (record { value = refl; output_after = then-byte a.output.now a.output.now [] a.at (written_none a.output.now a.at) (48 + a.n) a.at (omega (arith, room)) (omega arith) })

pub put_digits-next-requires : goal.put_digits-next-requires
put_digits-next-requires t c =
    let large = c.if-n-lt10.false in
    (omega (arith, c.decreases, large), omega (arith, c.requires, more-size c.args.n large))

pub bounds-output-next : goal.bounds-output-next
bounds-output-next t c = omega (arith, c.requires, c.put_digits-next.ensures.value, more-size c.args.n c.if-n-lt10.false, c.put_digits-next.auto.output)

pub overflow_add-result-2 : goal.overflow_add-result-2
overflow_add-result-2 t c =
    record { fits = omega (arith, c.requires, c.put_digits-next.ensures.value, more-size c.args.n c.if-n-lt10.false, c.well_formed.0.0) }

pub returns : goal.returns
returns t c =
    let a = c.args in
    let large = c.if-n-lt10.false in
    let r = c.put_digits-next.ensures in
    let room : c.put_digits-next.result < length a.output.now = omega (arith, c.requires, r.value, more-size a.n large) in
    record {
      value = omega (arith, r.value, more-size a.n large);
      output_after =
          then-byte a.output.now c.put_digits-next.new.output (decimal (a.n / 10)) a.at r.output_after (48 + a.n % 10) c.put_digits-next.result (omega (arith, room, r.value)) r.value ∙
          ap (written a.output.now a.at) (sym (decimal-more a.n large));
    }
