-- `lent_registers::renewal::row` meets its contract.
use Rattle.std.proofs.Common.{ap, ◌∙◌, arith, get_or}
use Rattle.state.specs.Record.{no_capability}
use Rattle.lent_registers.proofs.renewal.row.Goals as goal

pub returns : goal.returns
returns c =
    c.unwrap_or.ensures ∙
    rw c.copied.ensures (c.get.ensures.lookup.4 (omega arith) no_capability ∙ ap (λ k. get_or c.args.capabilities k no_capability) c.from.ensures)
