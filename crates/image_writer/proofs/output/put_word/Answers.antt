-- `image_writer::output::put_word` meets its contract.
use Prim.Native.Nat.{ℕ, ◌/◌, ◌%◌}
use native.Mathlib.Omega.{arith}
use mathlib.Core.Path.{◌≡◌, ◌∙◌}
use mathlib.Core.List.{[], ◌∷◌}
use Rattle.image_format.specs.Bytes.{word_bytes, pair_bytes}
use Rattle.image_format.proofs.Written.{written-part, word_size}
use Rattle.image_writer.proofs.output.put_word.Goals as goal

-- the four bytes of a word, pair by pair
bytes-are : (w : ℕ) → w % 256 ∷ w / 256 % 256 ∷ w / 65536 % 256 ∷ w / 16777216 % 256 ∷ [] ≡ word_bytes w
unfolding word_bytes pair_bytes
bytes-are w =
    let a : w % 256 ≡ w % 65536 % 256 = omega arith in
    let b : w / 256 % 256 ≡ w % 65536 / 256 % 256 = omega arith in
    let d : w / 16777216 % 256 ≡ w / 65536 / 256 % 256 = omega arith in
    λ j. a j ∷ b j ∷ w / 65536 % 256 ∷ d j ∷ []

pub returns : goal.returns
returns c =
    let a = c.args in
    written-part a.output.now _ _ a.at _ (c.copy_from_slice.ensures.after ∙ c.to_le_bytes.ensures ∙ bytes-are a.w) (omega (arith, word_size a.w))
