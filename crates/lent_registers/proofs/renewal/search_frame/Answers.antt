use mathlib.Core.Path.{sym, ap, ◌∙◌}
use Rattle.lent_registers.proofs.Referred.{search-none, search-found}
use Rattle.capabilities.specs.Search.{capability_answer}
use Rattle.lent_registers.proofs.renewal.search_frame.Goals as goal

pub returns-in_default : goal.returns-in_default
returns-in_default c = sym (search-none _ _ _ _ _ (sym c.search.ensures ∙ ap capability_answer c.in_default.is))

pub returns-then-may_enter : goal.returns-then-may_enter
returns-then-may_enter c = c.enter.ensures ∙ sym (search-found _ _ _ _ _ _ (sym c.search.ensures ∙ ap capability_answer c.in-Some.is) (sym c.may_enter.ensures ∙ c.if-may_enter.true))

pub returns-else-may_enter : goal.returns-else-may_enter
returns-else-may_enter c = sym (search-found _ _ _ _ _ _ (sym c.search.ensures ∙ ap capability_answer c.in-Some.is) (sym c.may_enter.ensures ∙ c.if-may_enter.false))
