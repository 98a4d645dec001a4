-- `runs::renewal::renew_word` meets its contract.
use mathlib.Core.Path.{sym, ap, ◌∙◌}
use borrow.Author.Tests.{eq-eqb, ne_eqb}
use Rattle.words.specs.Refusal.{answer_of}
use Rattle.runs.proofs.Lists.{word_two, word-made, nothing-renewed}
use Rattle.runs.proofs.renewal.renew_word.Goals as goal

pub returns-then-i-eq2 : goal.returns-then-i-eq2
returns-then-i-eq2 c = word_two c.args.view.now.depth c.args.view.now.frame c.args.a c.args.i _ (eq-eqb _ _ c.if-i-eq2.true)

pub returns-in_default : goal.returns-in_default
returns-in_default c = word-made _ _ _ _ _ _ _ (ne_eqb _ _ c.if-i-eq2.false) (sym c.climb.ensures ∙ ap answer_of c.in_default.is) (nothing-renewed _ _ _)

pub returns-in-Ok : goal.returns-in-Ok
returns-in-Ok c = word-made _ _ _ _ _ _ _ (ne_eqb _ _ c.if-i-eq2.false) (sym c.climb.ensures ∙ ap answer_of c.in-Ok.is) c.renew.ensures
