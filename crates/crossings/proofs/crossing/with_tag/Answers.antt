use Rattle.crossings.proofs.crossing.with_tag.Goals as goal

pub returns : goal.returns
returns c = rw c.pointer_at.ensures at c.with_pointer.ensures
