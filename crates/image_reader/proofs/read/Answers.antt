-- `image_reader::read` meets its contract.
use mathlib.Core.Path.{◌≡◌, refl, sym, ap, ◌∙◌}
use borrow.Author.Tests.{le-leb, lt-leb}
use Rattle.words.specs.Answer.{number_of}
use Rattle.fresh.specs.Fresh.{fresh_of}
use Rattle.image_format.specs.Image.{image_of, layout_of}
use Rattle.image_reader.specs.Reader.{read_image, machine_after, memory_after}
use Rattle.words.proofs.Results.{handed_on}
use Rattle.image_reader.proofs.Stores.{Mapped, mapped-facts, mapped-refused}
use Rattle.image_reader.proofs.read.Goals as goal
use Rattle.image_reader.proofs.read.Goals.{Else-words-lt8192, In_ok-layout}

pub returns-then-words-lt8192 : goal.returns-then-words-lt8192
unfolding read_image machine_after memory_after
returns-then-words-lt8192 c = simp (lt-leb _ _ c.if-words-lt8192.true) (record { value = refl; machine_after = refl; words_after = refl })

-- with room in the memory, the answer is the image's
with-room : (c : Else-words-lt8192) → let a = c.args in read_image a.image.now a.words.now ≡ image_of a.image.now
unfolding read_image
with-room c = simp (le-leb _ _ c.if-words-lt8192.false)

-- the image that was passed
accepted : (c : In_ok-layout) → Mapped layout_of (image_of c.args.image.now) c.in_ok-layout.layout
accepted c =
    mapped-facts layout_of (image_of c.args.image.now) (sym (simp c.in_ok-layout.was at c.judge.ensures))

pub returns-in_err-layout : goal.returns-in_err-layout
unfolding machine_after memory_after
returns-in_err-layout c =
    simp (with-room (goal.at.returns-in_err-layout c).Else-words-lt8192, mapped-refused layout_of (image_of c.args.image.now) _ (sym (simp c.in_err-layout.was at c.judge.ensures)), handed_on c.from_residual.result _ c.from_residual.ensures.1) (record { value = refl; machine_after = refl; words_after = refl })

pub returns : goal.returns
unfolding machine_after
returns c =
    let a = c.args in
    let m = accepted (goal.at.returns c).In_ok-layout in
    let r = with-room (goal.at.returns c).Else-words-lt8192 in
    let e = r ∙ m.is in
    record {
      value = sym (ap number_of e);
      machine_after = c.fresh.ensures ∙ ap fresh_of (sym m.gives) ∙ sym (ap (machine_after a.m.now) e);
      words_after = c.store.ensures ∙ ap (memory_after a.words.now) (sym r);
    }
