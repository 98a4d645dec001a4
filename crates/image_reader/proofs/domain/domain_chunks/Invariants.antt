-- `image_reader::domain::domain_chunks` meets its contract.
use Rattle.image_reader.proofs.DomainRows.{DomainsSoFar}
use Rattle.image_reader.proofs.domain.domain_chunks.Given as goal

abbrev pub invariant-loop-i : goal.invariant-loop-i
invariant-loop-i l = DomainsSoFar l.image l.start l.count l.segments l.stacks l.rights l.at l.i
