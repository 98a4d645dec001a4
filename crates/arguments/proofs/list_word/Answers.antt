-- `arguments::list_word` meets its contract.
use mathlib.Core.Path.{ap, ◌∙◌}
use Rattle.words.specs.Refusal.{answer_of}
use Rattle.words.proofs.Results.{handed_on}
use Rattle.arguments.specs.ArgumentList.{list_word}
use Rattle.addressing.specs.Effective.{displaced_by}
use Rattle.arguments.proofs.list_word.Goals as goal

pub returns-in_err-climb : goal.returns-in_err-climb
unfolding list_word displaced_by
returns-in_err-climb c = ap answer_of (handed_on c.from_residual.result _ c.from_residual.ensures.1) ∙ simp (← c.in_err-climb.ensures)

pub returns : goal.returns
unfolding list_word displaced_by
returns c = simp (← c.in_ok-climb.ensures) c.read.ensures
