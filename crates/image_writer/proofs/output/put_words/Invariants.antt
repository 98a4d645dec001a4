-- `image_writer::output::put_words` meets its contract.
use Prim.Native.Nat.{◌+◌, ◌*◌}
use mathlib.Core.Path.{◌≡◌}
use lib.ListN.{length, take}
use Rattle.image_format.specs.Bytes.{words_bytes}
use Rattle.image_format.specs.Output.{written}
use Rattle.image_writer.proofs.output.put_words.Given as goal

abbrev pub invariant-loop-word : goal.invariant-loop-word
invariant-loop-word l =
    (l.place ≡ l.at + 4 * l.word-index) × (l.output ≡ written l.initial.output l.at (words_bytes (take l.word-index l.words))) × (length l.output ≡ length l.initial.output)
