-- Writing and reading back, reading and writing back, and what an accepted image gives.
use Prim.Native.Nat.{ℕ, ◌+◌, ◌≤◌}
use native.Mathlib.Omega.{arith}
use mathlib.Core.Path.{◌≡◌, sym, ap, ◌∙◌}
use mathlib.Core.Bool.{true}
use mathlib.Core.List.{List, ◌++◌}
use lib.Dec.{leb}
use lib.ListN.{length, drop, length-append, length-drop}
use borrow.Author.Tests.{le-leb, leb-true}
use Rattle.words.specs.Answer.{Answer, ok, number_of, ◌>>◌, require}
use Rattle.state.specs.declared.record.Machine.{Machine}
use Rattle.state.specs.Bases.{words_in}
use Rattle.soundness.specs.Sound.{sound_test}
use Rattle.fresh.specs.Fresh.{fresh_of}
use Rattle.layout_soundness.proofs.Gates.{facts-gates}
use Rattle.soundness.proofs.Facts.{sound-facts}
use Rattle.image_format.specs.Segment.{all_words}
use Rattle.image_format.specs.Image.{Image, image_of, image_from, bytes_of, layout_of, segments_in}
use Rattle.image_reader.specs.Reader.{read_image, machine_after, memory_after}
use Rattle.image_writer.specs.Writer.{write_image}
use Rattle.image_format.proofs.Answers.{passed, test, after, the_value}
use Rattle.roundtrips.proofs.Accepted.{accepted, longest}
use Rattle.roundtrips.proofs.AcceptedSound.{accepted-sound}
use Rattle.roundtrips.proofs.ReadBack.{image-back}
use Rattle.roundtrips.proofs.WriteBack.{image-forth}
use Rattle.roundtrips.proofs.LayoutBack.{words-in-order, words_count, good-image, wide-image, layout-back, gates-back}
use Rattle.roundtrips.proofs.LayoutForth.{image-again}
use Rattle.roundtrips.specs.Statements.{WriteThenRead, ReadThenWrite, ReadSound, ReadLongest}

-- the facts of an accepted read
read-image : (bytes ws : List ℕ) (i : Image) → read_image bytes ws ≡ ok i → (8192 ≤ length ws) × (image_of bytes ≡ ok i)
unfolding read_image
read-image bytes ws i e = let t = passed (leb 8192 (length ws)) 7 _ e in (leb-true _ _ t.0, t.1)

record Wrote (m : Machine) (words output bytes : List ℕ) : Type 0 where
  sound : sound_test m ≡ true
  enough : 8192 ≤ length words
  is : bytes_of (image_from m.layout words) ≡ bytes

wrote : (m : Machine) (words output bytes : List ℕ) → write_image m words output ≡ ok bytes → Wrote m words output bytes
unfolding write_image
wrote m words output bytes e =
    let t = after ((require (sound_test m) 9 >> require (leb 8192 (length words)) 7) >> require (leb (length (bytes_of (image_from m.layout words))) (length output)) 8) _ e in
    let u = after (require (sound_test m) 9 >> require (leb 8192 (length words)) 7) _ t.0 in
    let v = passed (sound_test m) 9 _ u.0 in
    record { sound = v.0; enough = leb-true _ _ (test _ 7 v.1); is = the_value t.1 }

pub write-then-read : WriteThenRead
unfolding read_image machine_after memory_after
write-then-read m words output bytes e a b m' ws h =
    let w = wrote m words output bytes e in
    let l = m.layout in
    let f = sound-facts m w.sound in
    let s = f.layout in
    let i = image_from l words in
    let back : image_of bytes ≡ ok i = ap image_of (sym w.is) ∙ image-back i (good-image l words s a w.enough) (wide-image l words s a w.enough b) (gates-back l words s a w.enough ∙ facts-gates _ _ _ f.gates) in
    let r : read_image bytes ws ≡ ok i = simp (le-leb 8192 (length ws) h) back in
    let n : length (all_words (segments_in l words)) ≡ words_in l.lengths = words_count l words s a w.enough in
    record {
      number = ap number_of r;
      machine = ap (machine_after m') r ∙ ap fresh_of (layout-back l words s a w.enough);
      memory = ap (memory_after ws) r ∙ (λ j. words-in-order l words s a w.enough j ++ drop (n j) ws);
    }

pub read-then-write : ReadThenWrite
unfolding write_image machine_after memory_after fresh_of
read-then-write bytes ws i e m output b h =
    let r = read-image bytes ws i e in
    let g = accepted bytes i r.1 in
    let mem = all_words i.segments ++ drop (length (all_words i.segments)) ws in
    let same : bytes_of (image_from (layout_of i) mem) ≡ bytes = ap bytes_of (image-again i g (drop (length (all_words i.segments)) ws)) ∙ image-forth bytes b r.1 in
    let size : length mem ≡ length ws = length-append (all_words i.segments) (drop (length (all_words i.segments)) ws) ∙ (let z : length (all_words i.segments) + length (drop (length (all_words i.segments)) ws) ≡ length ws = omega (arith, length-drop (length (all_words i.segments)) ws, r.0, g.words) in z) in
    ap (λ (x : Answer Image). write_image (machine_after m x) (memory_after ws x) output) e ∙
    simp (accepted-sound bytes i r.1, le-leb 8192 (length mem) (omega (arith, r.0)), same, le-leb (length bytes) (length output) h)

pub read-sound : ReadSound
unfolding machine_after
read-sound bytes ws i e m = ap (λ (x : Answer Image). sound_test (machine_after m x)) e ∙ accepted-sound bytes i (read-image bytes ws i e).1

pub read-longest : ReadLongest
read-longest bytes ws i e = longest bytes i (read-image bytes ws i e).1
