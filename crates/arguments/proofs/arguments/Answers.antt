-- `arguments::arguments` meets its contract.
use mathlib.Core.Path.{sym, ap, ◌∙◌}
use Rattle.words.specs.Refusal.{answer_of}
use Rattle.words.proofs.Results.{handed_on}
use Rattle.arguments.proofs.Rest.{all_rest, refused-rest, taken-rest, no-rest}
use Rattle.arguments.proofs.arguments.Goals as goal

pub loop-i-init : goal.loop-i-init
loop-i-init c = all_rest _ _ _ _ _ _ _

pub loop-i-preserved : goal.loop-i-preserved
loop-i-preserved c =
    c.loop-i.invariant ∙ taken-rest _ _ _ _ _ _ _ c.loop-i-test.true _ _ _ (sym c.in_ok-c.ensures) c.with_row-more.ensures

pub returns-in_err-c : goal.returns-in_err-c
returns-in_err-c c =
    ap answer_of (handed_on c.from_residual.result _ c.from_residual.ensures.1) ∙
    sym (c.loop-i.invariant ∙ refused-rest _ _ _ _ _ _ _ c.loop-i-test.true _ _ (sym c.in_err-c.ensures))

pub returns : goal.returns
returns c = sym (c.loop-i.invariant ∙ no-rest _ _ _ _ _ _ _ c.loop-i-test.false _)
