-- Reading an image into an empty record and 8,192 zeros, then running it.
use Prim.Native.Nat.{ℕ, ◌+◌, ◌≤◌}
use native.Mathlib.Omega.{arith}
use mathlib.Core.Bool.{true}
use mathlib.Core.List.{List}
use mathlib.Core.Path.{◌≡◌, refl, ap, ◌∙◌}
use borrow.Author.Tests.{le-leb}
use lib.ListN.{length, drop, replicate, length-append, length-drop, length-replicate}
use Rattle.words.specs.Answer.{Answer, refuse, ok, ◌>>=◌, number_of}
use Rattle.words.specs.Refusal.{number}
use Rattle.words.specs.declared.refusal.Refusal.{Refusal}
use Rattle.words.proofs.Results.{number-some}
use Rattle.state.specs.declared.record.Machine.{Machine}
use Rattle.soundness.specs.Sound.{sound_test}
use Rattle.fresh.specs.Fresh.{fresh_of}
use Rattle.runs.specs.Run.{refused, judged, called_of}
use Rattle.processor.specs.Calls.{run_of, run_call}
use Rattle.image_format.specs.Segment.{all_words}
use Rattle.image_format.specs.Image.{Image, image_of, layout_of}
use Rattle.image_reader.specs.Reader.{read_image, machine_after, memory_after}
use Rattle.roundtrips.proofs.Accepted.{accepted}
use Rattle.roundtrips.proofs.AcceptedSound.{accepted-sound}
use Rattle.entry.specs.ImageRun.{Final, final_of, memory_of, machine_run, image_run, empty_machine, closed}
use Rattle.entry.proofs.Refusals.{image-number}

abbrev zeros : List ℕ
zeros = replicate 8192 0

zeros-length : length zeros ≡ 8192
zeros-length = length-replicate {A = ℕ} 8192 0

abbrev ran_final : ℕ → Image → Answer Final
ran_final limit i = ok (final_of (machine_run limit i))

-- the words of an accepted image fit
memory-length : (i : Image) → length (all_words i.segments) ≤ 8192 → length (memory_of i) ≡ 8192
unfolding memory_after
memory-length i h =
    let n = length (all_words i.segments) in
    length-append (all_words i.segments) (drop n zeros) ∙
    (let e : n + length (drop n zeros) ≡ 8192 = omega (arith, length-drop n zeros, zeros-length) in e)

module _ (limit : ℕ) (bytes : List ℕ) where
  read-room : (words : List ℕ) → length words ≡ 8192 → read_image bytes words ≡ image_of bytes
  unfolding read_image
  read-room words l = simp (le-leb 8192 (length words) (omega arith))

  read-zeros : read_image bytes zeros ≡ image_of bytes
  read-zeros = read-room zeros zeros-length

  refused-by : (a : Answer Image) (r : Refusal) → number r ≡ number_of a
      → record { machine = machine_after empty_machine a; count = 0; ending = refused (number r) } ≡ closed (a >>= ran_final limit)
  unfolding machine_after
  refused-by (refuse n) r e = ap (λ (k : ℕ). record { machine = empty_machine; count = 0; ending = refused k }) e
  refused-by (ok i) r e = absurd (number-some r e)

  -- a refused image
  pub refused-run : (m : Machine) (r : Refusal) → m ≡ machine_after empty_machine (read_image bytes zeros) → number r ≡ number_of (read_image bytes zeros)
      → record { machine = m; count = 0; ending = refused (number r) } ≡ closed (image_run limit bytes)
  unfolding image_run
  refused-run m r e n = rw (e, read-zeros) (refused-by (image_of bytes) r (rw read-zeros at n))

  called : (m : Machine) (words : List ℕ) → sound_test m ≡ true → length words ≡ 8192 → run_call limit m words ≡ run_of limit m words
  unfolding run_call called_of judged
  called m words s l = simp (s, le-leb 8192 (length words) (omega arith))

  passed-by : (a : Answer Image) → image_of bytes ≡ a → 0 ≡ number_of a → final_of (run_call limit (machine_after empty_machine a) (memory_after zeros a)) ≡ closed (a >>= ran_final limit)
  unfolding machine_after
  passed-by (refuse n) e h = absurd (let q = image-number bytes n e in omega (arith, q.0, h))
  passed-by (ok i) e h = ap final_of (called (fresh_of (layout_of i)) (memory_of i) (accepted-sound bytes i e) (memory-length i (accepted bytes i e).words))

  -- an accepted image
  pub passed-run : (m : Machine) (words : List ℕ) → m ≡ machine_after empty_machine (read_image bytes zeros) → words ≡ memory_after zeros (read_image bytes zeros) → 0 ≡ number_of (read_image bytes zeros)
      → final_of (run_call limit m words) ≡ closed (image_run limit bytes)
  unfolding image_run
  passed-run m words e w h = rw (e, w, read-zeros) (passed-by (image_of bytes) refl (rw read-zeros at h))
