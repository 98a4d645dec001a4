-- `references::live::pass_on` meets its contract.
use borrow.Author.Tests.{eq-eqb, ne_eqb}
use Rattle.references.specs.Live.{passed_of, live_match}
use Rattle.references.proofs.live.pass_on.Goals as goal

pub returns-then-view-eq0 : goal.returns-then-view-eq0
unfolding passed_of live_match
returns-then-view-eq0 c = simp (eq-eqb _ _ c.if-view-eq0.true)

pub returns-in-None : goal.returns-in-None
unfolding passed_of live_match
returns-in-None c = simp (ne_eqb _ _ c.if-view-eq0.false, ← c.search.ensures, c.in-None.is)

pub returns-in-Some : goal.returns-in-Some
unfolding passed_of live_match
returns-in-Some c = simp (ne_eqb _ _ c.if-view-eq0.false, ← c.search.ensures, c.in-Some.is)
