-- What a read and a restart leave of the bytes of a record.
use Prim.Native.Nat.{ℕ, ◌<◌, ◌≤◌}
use native.Mathlib.Omega.{arith}
use mathlib.Core.Bool.{Bool, true, false}
use mathlib.Core.List.{List}
use mathlib.Core.Path.{◌≡◌, refl, ap, ◌∙◌}
use borrow.Author.Tests.{le-leb, lt-leb}
use lib.Dec.{leb}
use lib.ListN.{length}
use Rattle.words.specs.Answer.{Answer, refuse, ok, ◌>>◌, require, number_of}
use Rattle.words.specs.Refusal.{number}
use Rattle.words.specs.declared.refusal.Refusal.{Refusal}
use Rattle.words.proofs.Results.{number-some}
use Rattle.state.specs.declared.record.Machine.{Machine}
use Rattle.fresh.specs.Fresh.{fresh_of}
use Rattle.soundness.specs.Sound.{sound_test}
use Rattle.snapshot_format.specs.RecordForm.{with_record}
use Rattle.image_format.specs.Image.{Image, image_of}
use Rattle.image_reader.specs.Reader.{read_image, machine_after, memory_after}
use Rattle.entry.proofs.Refusals.{image-number}
use Rattle.held_runs.specs.Opened.{opened, replaced}
use Rattle.held_images.specs.Images.{image_read, machine_read, restart_of}

module _ (image bytes words : List ℕ) where
  -- a number, a record and words are those that a read gives
  abbrev pub Reads : ℕ → List ℕ → List ℕ → Type 0
  Reads number after memory =
      (number ≡ number_of (image_read image bytes words)) × ((after ≡ replaced bytes (machine_read (image_read image bytes words))) × (memory ≡ memory_after words (image_read image bytes words)))

  pub without-room : length bytes < 1079 → Reads 8 bytes words
  unfolding image_read memory_after
  without-room h = simp (lt-leb _ _ h) (refl, (refl, refl))

  read_is : 1079 ≤ length bytes → image_read image bytes words ≡ read_image image words
  unfolding image_read
  read_is h = simp (le-leb _ _ h)

  refusing : (a : Answer Image) (e : Refusal) → number e ≡ number_of a → bytes ≡ replaced bytes (machine_read a)
  refusing (ok i) e h = absurd (number-some e h)
  refusing (refuse n) e h = refl

  accepting : (none : Machine) (a : Answer Image) (enough : Bool) → (require enough 7 >> image_of image) ≡ a → 0 ≡ number_of a
      → with_record bytes (machine_after none a) ≡ replaced bytes (machine_read a)
  unfolding machine_after
  accepting none (ok i) enough e h = refl
  accepting none (refuse n) true e h = absurd (let q = image-number image n e in omega (arith, q.0, h))
  accepting none (refuse n) false e h = absurd (let z : 7 ≡ n = ap number_of e in omega (arith, z, h))

  module _ (memory : List ℕ) (room : 1079 ≤ length bytes) (left : memory ≡ memory_after words (read_image image words)) where
    pub read-refused : (e : Refusal) → number e ≡ number_of (read_image image words) → Reads (number e) bytes memory
    read-refused e h = rw (read_is room) (h, (refusing (read_image image words) e h, left))

    pub read-accepted : (none m : Machine) (after : List ℕ) → 0 ≡ number_of (read_image image words) → m ≡ machine_after none (read_image image words)
        → after ≡ with_record bytes m → Reads 0 after memory
    unfolding read_image
    read-accepted none m after h is wrote =
        rw (read_is room) (h, (wrote ∙ ap (with_record bytes) is ∙ accepting none (read_image image words) (leb 8192 (length words)) refl h, left))

-- a number and a record are those of a restart
module _ (bytes : List ℕ) where
  abbrev pub Restarts : ℕ → List ℕ → Type 0
  Restarts number after = (number ≡ number_of (restart_of bytes)) × (after ≡ replaced bytes (restart_of bytes))

  pub restart-refused : (n : ℕ) → opened bytes ≡ refuse n → Restarts n bytes
  unfolding restart_of
  restart-refused n e = rw e (refl, refl)

  pub restart-unsound : (m : Machine) → opened bytes ≡ ok m → sound_test m ≡ false → Restarts 9 bytes
  unfolding restart_of
  restart-unsound m e s = rw (e, s) (refl, refl)

  pub restart-made : (m : Machine) (after : List ℕ) → opened bytes ≡ ok m → sound_test m ≡ true → after ≡ with_record bytes (fresh_of m.layout) → Restarts 0 after
  unfolding restart_of
  restart-made m after e s wrote = rw (e, s) (refl, wrote)
