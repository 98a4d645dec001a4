-- `lent_registers::renewal::counted` meets its contract.
use mathlib.Core.Path.{ap, ◌∙◌}
use lib.Dec.{ltb}
use Rattle.words.specs.Bit.{bit}
use Rattle.lent_registers.proofs.Bytes.{byte-bit, bit-most}
use Rattle.lent_registers.proofs.renewal.counted.Goals as goal

pub returns : goal.returns
returns c =
    let e = c.from.ensures ∙ byte-bit (ltb c.order.result c.args.place) in
    (e ∙ ap (λ n. bit (ltb n c.args.place)) c.order.ensures, rw e (bit-most (ltb c.order.result c.args.place)))
