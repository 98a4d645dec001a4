-- `image_reader::bytes::pair` meets its contract.
use mathlib.Core.Path.{◌∙◌}
use native.Mathlib.Nat.{add-zero}
use lib.Seq.{get_or-drop}
use Rattle.image_format.specs.Bytes.{pair_of}
use Rattle.image_reader.proofs.bytes.pair.Goals as goal

pub returns : goal.returns
unfolding pair_of
returns c = c.from_le_bytes.ensures ∙ simp (get_or-drop, add-zero)
