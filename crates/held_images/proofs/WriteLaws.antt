-- What the writer answers: the length of an image, or a refusal.
use Prim.Native.Nat.{ℕ, ◌+◌, ◌≤◌}
use native.Mathlib.Omega.{arith}
use native.Mathlib.Nat.{mul-le-mul}
use mathlib.Core.Path.{◌≡◌, refl, ◌∙◌}
use mathlib.Core.Bool.{Bool, true, false}
use mathlib.Core.List.{List}
use borrow.Author.Tests.{leb-true}
use lib.Dec.{leb}
use lib.ListN.{length}
use Rattle.words.specs.Answer.{Answer, refuse, ok, ◌>>=◌, ◌>>◌, require}
use Rattle.state.specs.declared.record.Machine.{Machine}
use Rattle.soundness.specs.Sound.{sound_test}
use Rattle.soundness.proofs.Facts.{sound-facts}
use Rattle.snapshot_format.specs.Tabulate.{tabulate}
use Rattle.snapshot_format.specs.RecordForm.{record_in}
use Rattle.snapshot_reader.specs.Formed.{formed}
use Rattle.image_format.specs.Image.{image_from, bytes_of}
use Rattle.image_reader.specs.Reader.{mapped}
use Rattle.image_writer.specs.Writer.{write_image, write_result, output_after}
use Rattle.image_format.proofs.Sizes.{image-size}
use Rattle.held_runs.specs.Opened.{opened}
use Rattle.held_images.specs.Images.{image_written}

differ : {a n : ℕ} → ok a ≡ refuse n → ⊥
differ q = let z : ◌≡◌ {A = ℕ} 0 1 = cc in omega arith

-- the writer's answer, by its three tests
abbrev tests : Bool → Bool → Bool → List ℕ → Answer (List ℕ)
tests sound enough room bytes = require sound 9 >> require enough 7 >> require room 8 >> ok bytes

short : (s e r : Bool) (bytes : List ℕ) (n : ℕ) → (s ≡ true → e ≡ true → length bytes ≤ 33080) → ok n ≡ mapped length (tests s e r bytes) → n ≤ 33080
short true true true bytes n h q = let z : n ≡ length bytes = cc in omega (arith, z, h refl refl)
short true true false bytes n h q = absurd (differ q)
short true false r bytes n h q = absurd (differ q)
short false e r bytes n h q = absurd (differ q)

-- the image of a sound record has at most 33,080 bytes
sound-short : (m : Machine) (words : List ℕ) → length m.layout.rights ≡ 128 → sound_test m ≡ true → leb 8192 (length words) ≡ true → length (bytes_of (image_from m.layout words)) ≤ 33080
sound-short m words wide s e =
    let f = (sound-facts m s).layout in
    let h : 5 + m.layout.segments ≤ 21 = omega (arith, f.segments) in
    omega (arith, image-size m.layout words f (leb-true _ _ e) wide, mul-le-mul f.domains h, f.segments, f.words)

rights-wide : (bytes : List ℕ) → length (record_in bytes).layout.rights ≡ 128
unfolding record_in tabulate
rights-wide bytes = refl

-- the length that the writer gives, or the refusal
pub mapped-length : (a : Answer (List ℕ)) → write_result a ≡ mapped length a
unfolding write_result
mapped-length (refuse n) = refl
mapped-length (ok bytes) = refl

written-short : (m : Machine) (words output : List ℕ) (n : ℕ) → length m.layout.rights ≡ 128 → ok n ≡ mapped length (write_image m words output) → n ≤ 33080
unfolding write_image
written-short m words output n wide q =
    let whole : List ℕ = bytes_of (image_from m.layout words) in
    short (sound_test m) (leb 8192 (length words)) (leb (length whole) (length output)) whole n (sound-short m words wide) q

-- a record, a length and an output are those of the call
module _ (bytes words output : List ℕ) where
  pub write-refused : (n : ℕ) → opened bytes ≡ refuse n → refuse n ≡ mapped length (image_written bytes words output) × (output ≡ output_after output (image_written bytes words output))
  unfolding image_written output_after
  write-refused n e = rw e (refl, refl)

  pub write-made : (m : Machine) (a : Answer ℕ) (after : List ℕ) → opened bytes ≡ ok m → a ≡ write_result (write_image m words output)
      → after ≡ output_after output (write_image m words output) → (a ≡ mapped length (image_written bytes words output)) × (after ≡ output_after output (image_written bytes words output))
  unfolding image_written
  write-made m a after e p q = rw e (p ∙ mapped-length (write_image m words output), q)

  -- an image that is written has at most 33,080 bytes
  pub held-short : (n : ℕ) → ok n ≡ mapped length (image_written bytes words output) → n ≤ 33080
  unfolding image_written opened
  held-short n q = by (formed bytes) q
    where
      by : (a : Answer (Unit {0})) → ok n ≡ mapped length ((a >> ok (record_in bytes)) >>= (λ m. write_image m words output)) → n ≤ 33080
      by (refuse k) q = absurd (differ q)
      by (ok u) q = written-short (record_in bytes) words output n (rights-wide bytes) q
