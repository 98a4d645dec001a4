-- `snapshot_writer::numbers::put_bytes` meets its contract.
use native.Mathlib.Omega.{arith}
use mathlib.Core.Path.{sym, ap, ◌∙◌}
use lib.Seq.{sets}
use Rattle.snapshot_writer.proofs.Laws.{part-put, joined-bytes}
use Rattle.snapshot_writer.proofs.numbers.put_bytes.Goals as goal

pub returns : goal.returns
returns c =
    let a = c.args in
    part-put a.output.now a.numbers.now a.from _ c.copy_from_slice.ensures.after (omega arith) (omega (arith, c.requires)) ∙
    ap (sets a.output.now a.from) (sym (joined-bytes a.numbers.now))
