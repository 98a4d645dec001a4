-- `entry::put_result` meets its contract.
use mathlib.Core.Path.{refl}
use Rattle.image_format.specs.Bytes.{pair_bytes}
use Rattle.entry.proofs.put_result.Goals as goal

pub returns : goal.returns
unfolding pair_bytes
returns c = rw (c.copy_from_slice.ensures.after, c.to_le_bytes.ensures) refl
