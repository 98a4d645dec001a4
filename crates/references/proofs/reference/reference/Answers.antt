-- `references::reference::reference` meets its contract.
use Rattle.references.specs.Reference.{verdict_of, locate_of, live_reference_of, reference_of}
use Rattle.references.proofs.reference.reference.Goals as goal

pub returns-then-p : goal.returns-then-p
unfolding reference_of verdict_of live_reference_of
returns-then-p c = simp c.if-p.true c.live_reference.ensures

pub returns-else-p : goal.returns-else-p
unfolding reference_of verdict_of locate_of
returns-else-p c = simp (c.if-p.false, ← c.asked.ensures) c.locate.ensures
