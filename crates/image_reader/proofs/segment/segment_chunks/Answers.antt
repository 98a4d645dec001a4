-- `image_reader::segment::segment_chunks` meets its contract.
use Rattle.image_format.proofs.Padded.{padded-none}
use Rattle.words.proofs.Results.{handed_on}
use Rattle.image_reader.proofs.SegmentRows.{segments-none, segments-done, segments-refused, row_fits, segments-next}
use Rattle.image_reader.proofs.segment.segment_chunks.Goals as goal

pub loop-i-init : goal.loop-i-init
loop-i-init c = segments-none (padded-none 16) (padded-none 16) (padded-none 16)

pub returns-in_err-r : goal.returns-in_err-r
returns-in_err-r c = simp (handed_on c.from_residual.result _ c.from_residual.ensures.1) (segments-refused c.loop-i.invariant c.loop-i-test.true (simp c.in_err-r.was at c.segment_chunk.ensures))

pub overflow_sub-room : goal.overflow_sub-room
overflow_sub-room c = row_fits c.loop-i.invariant c.loop-i-test.true c.requires c.in_ok-r.r (simp c.in_ok-r.was at c.segment_chunk.ensures)

pub loop-i-preserved : goal.loop-i-preserved
loop-i-preserved c = segments-next c.loop-i.invariant c.loop-i-test.true c.requires c.in_ok-r.r (simp c.in_ok-r.was at c.segment_chunk.ensures)

pub returns : goal.returns
returns c = segments-done c.loop-i.invariant c.loop-i-test.false
