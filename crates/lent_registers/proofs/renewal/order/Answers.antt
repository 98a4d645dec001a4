-- `lent_registers::renewal::order` meets its contract.
use Rattle.std.proofs.Common.{rules, tests, ap, ◌∙◌, List, ℕ, get_or, ◌+◌}
use borrow.Author.Tests.{ne_eqb}
use Rattle.recent.specs.Registers.{order_of}
use Rattle.lent_registers.specs.Columns.{register_at}
use Rattle.lent_registers.proofs.renewal.order.Goals as goal

pub returns-then-recent-i : goal.returns-then-recent-i
unfolding order_of register_at
returns-then-recent-i c = search (rules, tests)

pub returns-else-recent-i : goal.returns-else-recent-i
unfolding order_of register_at
returns-else-recent-i c =
    let e = c.as_slice-recent.ensures in
    rw (ne_eqb _ _ (λ q. c.if-recent-i.false (ap (λ (xs : List ℕ). get_or xs (16 + c.args.i) 0) e ∙ q))) (ap (λ n. n + 16) (c.from-n.ensures ∙ ap (λ (xs : List ℕ). get_or xs c.args.i 0) e))
