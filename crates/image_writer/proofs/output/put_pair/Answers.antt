-- `image_writer::output::put_pair` meets its contract.
use native.Mathlib.Omega.{arith}
use mathlib.Core.Path.{◌∙◌}
use Rattle.image_format.specs.Bytes.{pair_bytes}
use Rattle.image_format.proofs.Written.{written-part}
use Rattle.image_writer.proofs.output.put_pair.Goals as goal

pub returns : goal.returns
unfolding pair_bytes
returns c =
    let a = c.args in
    written-part a.output.now _ _ a.at _ (c.copy_from_slice.ensures.after ∙ c.to_le_bytes.ensures) (omega arith)
