-- `image_reader::store::store` meets its contract.
use Rattle.image_reader.proofs.Stores.{StoredSoFar}
use Rattle.image_reader.proofs.store.store.Given as goal

abbrev pub invariant-loop-i : goal.invariant-loop-i
invariant-loop-i l = StoredSoFar l.image l.initial.words l.layout.lengths l.layout.segments l.words l.at l.base l.i
