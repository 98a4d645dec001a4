-- `image_writer::chunk_output::put_domains` meets its contract.
use Rattle.image_format.specs.Domain.{domain_bytes}
use Rattle.image_format.specs.Image.{domain_at}
use Rattle.image_format.proofs.Written.{RowsPut}
use Rattle.image_writer.proofs.chunk_output.put_domains.Given as goal

abbrev pub invariant-loop-i : goal.invariant-loop-i
invariant-loop-i l = RowsPut domain_bytes (domain_at l.layout.segments l.layout.stacks l.layout.rights) l.initial.output l.start l.layout.domains l.output l.at l.i
