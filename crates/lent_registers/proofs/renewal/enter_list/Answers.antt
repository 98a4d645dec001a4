use mathlib.Core.Path.{sym, ◌∙◌}
use Rattle.lent_registers.proofs.Referred.{listed-is}
use Rattle.lent_registers.proofs.renewal.enter_list.Goals as goal

pub returns-then-all_yield : goal.returns-then-all_yield
returns-then-all_yield c = c.enter.ensures ∙ sym (listed-is _ _ _ _ _ _ c.saturating_sub-last.ensures c.row-c.ensures (sym c.all_yield.ensures ∙ c.if-all_yield.true))

pub returns-else-all_yield : goal.returns-else-all_yield
returns-else-all_yield c = sym (listed-is _ _ _ _ _ _ c.saturating_sub-last.ensures c.row-c.ensures (sym c.all_yield.ensures ∙ c.if-all_yield.false))
