-- `references::live::found_source` meets its contract.
use mathlib.Core.Path.{sym, ap, ◌∙◌}
use Rattle.lent_registers.specs.Columns.{register_at}
use Rattle.lent_registers.specs.Lent.{held_answer}
use Rattle.references.proofs.Sources.{found_none, found-held, found-searched}
use Rattle.references.proofs.live.found_source.Goals as goal

pub returns-then-view-eq0 : goal.returns-then-view-eq0
returns-then-view-eq0 c = sym (found_none _ _ _ _ _ _ c.if-view-eq0.true)

pub returns-in-Some : goal.returns-in-Some
unfolding register_at
returns-in-Some c =
    sym (found-held _ _ _ _ _ _ c.if-view-eq0.false _ (sym c.held.ensures.result_value ∙ ap (held_answer c.args.recent.now) c.in-Some.is))

pub returns-in-None : goal.returns-in-None
returns-in-None c =
    c.pass_on.ensures ∙ sym (found-searched _ _ _ _ _ _ c.if-view-eq0.false _ (sym c.held.ensures.result_value ∙ ap (held_answer c.args.recent.now) c.in-None.is))
