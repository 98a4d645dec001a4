-- `image_reader::bytes::word` meets its contract.
use Prim.Native.Nat.{◌+◌}
use mathlib.Core.Path.{◌≡◌, ◌∙◌}
use native.Mathlib.Nat.{add-zero}
use native.Mathlib.Omega.{arith}
use lib.Seq.{get_or-drop, drop-drop}
use Rattle.image_format.specs.Bytes.{pair_of, word_of}
use Rattle.image_reader.proofs.bytes.word.Goals as goal

pub returns : goal.returns
unfolding word_of pair_of
returns c =
    let e : c.args.at + 2 + 1 ≡ c.args.at + 3 = omega arith in
    c.from_le_bytes.ensures ∙ simp (get_or-drop, drop-drop, add-zero, e) (omega arith)
