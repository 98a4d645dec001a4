-- `crossing_log::records::put_crossing` meets its contract.
use native.Mathlib.Omega.{arith}
use mathlib.Core.Path.{refl, ◌∙◌}
use Rattle.image_format.specs.Bytes.{pair_bytes}
use Rattle.image_format.proofs.Written.{written-part}
use Rattle.crossing_log.proofs.records.put_crossing.Goals as goal

pub returns : goal.returns
unfolding pair_bytes
returns c =
    let a = c.args in
    written-part a.log.now _ _ a.at _ (c.copy_from_slice.ensures.after ∙ rw (c.kind_byte.ensures, c.to_le_bytes.ensures) refl) (omega arith)
