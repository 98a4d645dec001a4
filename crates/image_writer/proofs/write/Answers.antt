-- `image_writer::write` meets its contract.
use Prim.Native.Nat.{◌≤◌}
use native.Mathlib.Omega.{arith}
use mathlib.Core.Path.{◌≡◌, refl, sym, ap, ◌∙◌}
use mathlib.Core.Bool.{true}
use borrow.Author.Tests.{le-leb, lt-leb}
use lib.ListN.{length}
use Rattle.words.specs.Answer.{ok}
use Rattle.soundness.specs.Sound.{sound_test}
use Rattle.soundness.proofs.Facts.{sound-facts}
use Rattle.image_format.specs.Image.{image_from, bytes_of}
use Rattle.image_writer.specs.Writer.{write_image, write_result, output_after}
use Rattle.image_writer.proofs.write.Goals as goal
use Rattle.image_writer.proofs.write.Goals.{Else-not-sound, Else-output-n}

pub returns-then-not-sound : goal.returns-then-not-sound
unfolding write_image write_result output_after
returns-then-not-sound c = simp (← c.sound.ensures, c.if-not-sound.true) (record { value = refl; output_after = refl })

-- the machine is sound
is-sound : (c : Else-not-sound) → sound_test c.args.m ≡ true
is-sound c = sym c.sound.ensures ∙ c.if-not-sound.false

pub returns-then-words-lt8192 : goal.returns-then-words-lt8192
unfolding write_image write_result output_after
returns-then-words-lt8192 c = simp (is-sound (goal.at.returns-then-words-lt8192 c).Else-not-sound, lt-leb _ _ c.if-words-lt8192.true) (record { value = refl; output_after = refl })

pub size-n-requires : goal.size-n-requires
size-n-requires c =
    ((sound-facts c.args.m (is-sound (goal.at.size-n-requires c).Else-not-sound)).layout.tested, c.if-words-lt8192.false)

pub returns-then-output-n : goal.returns-then-output-n
unfolding write_image write_result output_after
returns-then-output-n c =
    simp (is-sound (goal.at.returns-then-output-n c).Else-not-sound, le-leb _ _ c.if-words-lt8192.false, ← c.size-n.ensures, lt-leb _ _ c.if-output-n.true) (record { value = refl; output_after = refl })

pub put_image-requires : goal.put_image-requires
put_image-requires c =
    (record { layout_value = (sound-facts c.args.m (is-sound (goal.at.put_image-requires c).Else-not-sound)).layout.tested; in_bounds = c.if-words-lt8192.false; words_in_bounds = omega (arith, c.size-n.ensures, c.if-output-n.false) })

-- the bytes are given
given : (c : Else-output-n) → let a = c.args in write_image a.m a.words.now a.output.now ≡ ok (bytes_of (image_from a.m.layout a.words.now))
unfolding write_image
given c =
    simp (is-sound (goal.at.Else-output-n c).Else-not-sound, le-leb _ _ c.if-words-lt8192.false, le-leb _ _ (let h : length (bytes_of (image_from c.args.m.layout c.args.words.now)) ≤ length c.args.output.now = omega (arith, c.size-n.ensures, c.if-output-n.false) in h))

pub returns : goal.returns
unfolding write_result output_after
returns c =
    let a = c.args in
    let w = given (goal.at.returns c).Else-output-n in
    record { value = ap ok c.size-n.ensures ∙ sym (ap write_result w); output_after = c.put_image.ensures ∙ sym (ap (output_after a.output.now) w) }
