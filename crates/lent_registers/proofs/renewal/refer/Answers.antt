-- `lent_registers::renewal::refer` meets its contract.
use mathlib.Core.Path.{sym, ap, ◌∙◌}
use Rattle.lent_registers.proofs.Referred.{refer-none, refer-held, refer-searched}
use Rattle.lent_registers.specs.Columns.{register_at}
use Rattle.lent_registers.specs.Lent.{held_answer}
use Rattle.lent_registers.proofs.renewal.refer.Goals as goal

pub returns-then-depth-eq0 : goal.returns-then-depth-eq0
returns-then-depth-eq0 c = sym (refer-none _ _ _ _ _ _ c.if-depth-eq0.true)

pub returns-in-Some : goal.returns-in-Some
unfolding register_at
returns-in-Some c = c.touch.ensures ∙ sym (refer-held _ _ _ _ _ _ _ c.if-depth-eq0.false (sym c.held.ensures.result_value ∙ ap (held_answer c.args.recent.now) c.in-Some.is))

pub returns-in_default : goal.returns-in_default
returns-in_default c = c.search_frame.ensures ∙ sym (refer-searched _ _ _ _ _ _ _ c.if-depth-eq0.false (sym c.held.ensures.result_value ∙ ap (held_answer c.args.recent.now) c.in_default.is))
