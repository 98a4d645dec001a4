-- `image_reader::segment::segment_chunks` meets its contract.
use Rattle.image_reader.proofs.SegmentRows.{SegmentsSoFar}
use Rattle.image_reader.proofs.segment.segment_chunks.Given as goal

abbrev pub invariant-loop-i : goal.invariant-loop-i
invariant-loop-i l = SegmentsSoFar l.image l.start l.count l.domains l.lengths l.gates l.gatedomains l.at l.room l.i
