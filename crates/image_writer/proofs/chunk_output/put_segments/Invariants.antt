-- `image_writer::chunk_output::put_segments` meets its contract.
use mathlib.Core.Path.{◌≡◌}
use Rattle.state.specs.Bases.{base_of}
use Rattle.image_format.specs.Segment.{segment_bytes}
use Rattle.image_format.specs.Image.{segment_at}
use Rattle.image_format.proofs.Written.{RowsPut}
use Rattle.image_writer.proofs.chunk_output.put_segments.Given as goal

abbrev pub invariant-loop-i : goal.invariant-loop-i
invariant-loop-i l = (l.base ≡ base_of l.layout.lengths l.i) × RowsPut segment_bytes (segment_at l.layout.lengths l.layout.gates l.layout.gatedomains l.words) l.initial.output l.start l.layout.segments l.output l.at l.i
