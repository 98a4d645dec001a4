use mathlib.Core.Path.{sym, ◌∙◌}
use borrow.Author.Tests.{le-leb, lt-leb}
use Rattle.crossings.specs.Crossing.{leave_check}
use Rattle.crossings.proofs.crossing.leave_check.Goals as goal

pub returns-then-view-lt1 : goal.returns-then-view-lt1
unfolding leave_check
returns-then-view-lt1 c = simp (lt-leb _ _ c.if-view-lt1.true)

pub returns-then-not-same_place : goal.returns-then-not-same_place
unfolding leave_check
returns-then-not-same_place c = simp (le-leb _ _ c.if-view-lt1.false, sym c.same_place.ensures ∙ c.if-not-same_place.true)

pub returns-then-not-same_place-2 : goal.returns-then-not-same_place-2
unfolding leave_check
returns-then-not-same_place-2 c =
    simp (le-leb _ _ c.if-view-lt1.false, sym c.same_place.ensures ∙ c.if-not-same_place.false, sym c.same_place-2.ensures ∙ c.if-not-same_place-2.true)

pub returns : goal.returns
unfolding leave_check
returns c =
    simp (le-leb _ _ c.if-view-lt1.false, sym c.same_place.ensures ∙ c.if-not-same_place.false, sym c.same_place-2.ensures ∙ c.if-not-same_place-2.false) c.static_check.ensures
