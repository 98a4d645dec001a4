-- `memory::read` meets its contract.
use mathlib.Core.Path.{ap, ◌∙◌}
use Rattle.words.specs.Refusal.{answer_of}
use Rattle.words.proofs.Results.{handed_on}
use Rattle.memory.specs.Reader.{read_of}
use Rattle.memory.proofs.read.Goals as goal

pub returns-in_err-i : goal.returns-in_err-i
unfolding read_of
returns-in_err-i c = ap answer_of (handed_on c.from_residual.result _ c.from_residual.ensures.1) ∙ simp (← c.in_err-i.ensures)

pub returns : goal.returns
unfolding read_of
returns c = simp (← c.in_ok-i.ensures, c.word_at.ensures)
