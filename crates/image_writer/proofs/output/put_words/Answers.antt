-- `image_writer::output::put_words` meets its contract.
use Prim.Native.Nat.{ℕ, ◌+◌, ◌*◌}
use native.Mathlib.Omega.{arith}
use mathlib.Core.Path.{◌≡◌, refl, ap, ◌∙◌}
use mathlib.Core.List.{List}
use lib.ListN.{length, get_or, take}
use lib.Seq.{length-take-le, take_all}
use Rattle.image_format.specs.Bytes.{word_bytes, words_bytes, joined}
use Rattle.image_format.specs.Output.{written}
use Rattle.image_format.proofs.Written.{written_none, written-length, words_more, words_size}
use Rattle.image_writer.proofs.output.put_words.Goals as goal

pub loop-word-init : goal.loop-word-init
unfolding joined
loop-word-init c =
    let a = c.args in
    (omega arith, written_none a.output.now a.at, refl)

pub loop-word-preserved : goal.loop-word-preserved
loop-word-preserved c =
    let a = c.args in
    let ws = a.words.now in
    let j = c.loop-word.word-index in
    let less = c.loop-word-test.true in
    let at : c.loop-word.place ≡ a.at + 4 * j = c.loop-word.invariant.0 in
    let e = c.put_word.ensures ∙ (λ k. written (c.loop-word.invariant.1 k) (at k) (word_bytes (get_or ws j 0))) ∙ words_more a.output.now a.at ws j less (omega (arith, c.requires, less)) in
    (omega (arith, at), e, ap length e ∙ written-length a.output.now a.at (words_bytes (take (j + 1) ws)) (omega (arith, words_size (take (j + 1) ws), length-take-le (j + 1) ws (omega (arith, less)), c.requires, less)))

pub returns : goal.returns
returns c =
    let a = c.args in
    c.loop-word.invariant.1 ∙ ap (λ (ws : List ℕ). written a.output.now a.at (words_bytes ws)) (take_all c.loop-word.word-index a.words.now c.loop-word-test.false)
