-- `addressing::through` meets its contract.
use mathlib.Core.Path.{ap, ◌∙◌}
use Rattle.words.specs.Refusal.{answer_of}
use Rattle.words.proofs.Results.{handed_on}
use Rattle.addressing.specs.Effective.{through_of}
use Rattle.addressing.proofs.through.Goals as goal

pub returns-in_err-w : goal.returns-in_err-w
unfolding through_of
returns-in_err-w c = ap answer_of (handed_on c.from_residual.result _ c.from_residual.ensures.1) ∙ simp (← c.in_err-w.ensures)

pub returns-in_err-q : goal.returns-in_err-q
unfolding through_of
returns-in_err-q c =
    ap answer_of (handed_on c.from_residual-in_err-q.result _ c.from_residual-in_err-q.ensures.1) ∙ simp (← c.in_ok-w.ensures, ← c.in_err-q.ensures)

pub returns-then-p : goal.returns-then-p
unfolding through_of
returns-then-p c = simp (← c.in_ok-w.ensures, ← c.in_ok-q.ensures, c.if-p.true)

pub returns-else-p : goal.returns-else-p
unfolding through_of
returns-else-p c = simp (← c.in_ok-w.ensures, ← c.in_ok-q.ensures, c.if-p.false)
