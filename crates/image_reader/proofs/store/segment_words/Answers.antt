-- `image_reader::store::segment_words` meets its contract.
use Prim.Native.Nat.{◌*◌}
use native.Mathlib.Omega.{arith}
use mathlib.Core.Path.{sym, ap, ◌∙◌}
use lib.ListN.{drop}
use lib.Seq.{drop-drop}
use Rattle.image_format.specs.Bytes.{word_of}
use Rattle.image_format.proofs.Parts.{words-length, words-at}
use Rattle.image_format.proofs.Copied.{copied_none, copied_next, copied-done}
use Rattle.image_reader.proofs.store.segment_words.Goals as goal

pub loop-j-init : goal.loop-j-init
loop-j-init c = copied_none c.requires.1 (omega (arith, words-length c.args.n (drop c.args.at c.args.image.now)))

pub loop-j-preserved : goal.loop-j-preserved
loop-j-preserved c = let a = c.args in let h = c.loop-j-test.true in
    copied_next c.loop-j.invariant h (words-at a.n (drop a.at a.image.now) c.loop-j.j h ∙ ap word_of (drop-drop (4 * c.loop-j.j) a.at a.image.now) ∙ sym c.word.ensures)

pub returns : goal.returns
returns c = copied-done c.loop-j.invariant c.loop-j-test.false
