-- `runs::renewal::renew_list` meets its contract.
use mathlib.Core.Path.{sym}
use borrow.Author.Tests.{not-true}
use Rattle.runs.proofs.Lists.{lists-none, lists-next, lists-all, list-untagged}
use Rattle.runs.proofs.renewal.renew_list.Goals as goal

pub returns-then-not-a : goal.returns-then-not-a
returns-then-not-a c = let a = c.args in sym (list-untagged a.view.now.depth a.view.now.frame a.a (not-true a.a.tag c.if-not-a.true) a.k 0 _)

pub loop-i-init : goal.loop-i-init
loop-i-init c = lists-none _ _ _ _ _

pub loop-i-preserved : goal.loop-i-preserved
loop-i-preserved c = lists-next _ _ _ _ _ _ _ c.loop-i.invariant c.loop-i-test.true _ c.renew_word.ensures

pub returns : goal.returns
returns c = lists-all _ _ _ _ _ _ _ c.loop-i.invariant c.loop-i-test.false
