-- `image_reader::bytes::left` meets its contract.
use mathlib.Core.Path.{sym, ◌∙◌}
use lib.ListN.{length-drop}
use Rattle.image_reader.proofs.bytes.left.Goals as goal

pub returns : goal.returns
returns c = let a = c.args in c.saturating_sub.ensures ∙ sym (length-drop a.at a.image.now)
