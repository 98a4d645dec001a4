-- Reading an image into an empty record and 8,192 zeros, then running it with a log.
use Prim.Native.Nat.{ℕ, ◌≤◌}
use native.Mathlib.Omega.{arith}
use mathlib.Core.Bool.{true}
use mathlib.Core.List.{List}
use mathlib.Core.Path.{◌≡◌, refl, sym, ap, ◌∙◌, subst}
use borrow.Author.Tests.{le-leb}
use lib.ListN.{length, replicate}
use Rattle.words.specs.Answer.{Answer, refuse, ok, ◌>>=◌, number_of}
use Rattle.words.specs.Refusal.{number}
use Rattle.words.specs.declared.refusal.Refusal.{Refusal}
use Rattle.words.proofs.Results.{number-some}
use Rattle.image_format.proofs.Answers.{no_value, the_value}
use Rattle.state.specs.declared.record.Machine.{Machine}
use Rattle.soundness.specs.Sound.{sound_test}
use Rattle.fresh.specs.Fresh.{fresh_of}
use Rattle.runs.specs.Run.{judged}
use Rattle.image_format.specs.Image.{Image, image_of, layout_of}
use Rattle.image_reader.specs.Reader.{read_image, machine_after, memory_after}
use Rattle.roundtrips.proofs.Good.{All}
use Rattle.roundtrips.proofs.AcceptedSound.{accepted-sound}
use Rattle.crossing_log.specs.Crossings.{Crossing, crossings_of}
use Rattle.crossing_log.specs.Log.{LoggedRun, logged_of, log_judged, log_call, logged_answer}
use Rattle.crossing_log.specs.declared.Logged.{Logged}
use Rattle.log_theorems.proofs.Logs.{log-most}
use Rattle.entry.specs.ImageRun.{memory_of, empty_machine}
use Rattle.entry.proofs.Refusals.{image-number}
use Rattle.log_report.specs.LogText.{image_crossings}
use Rattle.log_report.specs.Private.{totals_of, log_with}
use Rattle.log_theorems.proofs.LogBack.{Small, crossings-small}
use Rattle.log_report.specs.declared.image_log.Totals.{Totals}

abbrev zeros : List ℕ
zeros = replicate 8192 0

-- an answer with its value
pub record Passed {A : Type 0} (a : Answer A) : Type 0 where
  pub value : A
  pub is : a ≡ ok value

abbrev logged_image : Image → Answer (List Crossing)
logged_image i = ok (crossings_of 1000 (fresh_of (layout_of i)) (memory_of i))

-- the totals, and the log, of what a call gave
abbrev Kept : List ℕ → Answer (List Crossing) → Answer Totals → List ℕ → Type 0
Kept log a t out = (t ≡ totals_of a) × (out ≡ log_with log a)

logged-call : (m : Machine) (words log : List ℕ) → sound_test m ≡ true → 8192 ≤ length words → 6000 ≤ length log → log_call m words log ≡ logged_of m words log
unfolding log_call log_judged judged
logged-call m words log s w l = simp (s, le-leb 8192 (length words) w, le-leb 6000 (length log) l)

module _ (bytes log : List ℕ) where
  read-zeros : read_image bytes zeros ≡ image_of bytes
  unfolding read_image
  read-zeros = refl

  refused-by : (a : Answer Image) (r : Refusal) → number r ≡ number_of a → Kept log (a >>= logged_image) (refuse (number r)) log
  refused-by (refuse k) r e = (ap refuse e, refl)
  refused-by (ok i) r e = absurd (number-some r e)

  -- a refused image
  pub image-refused : (r : Refusal) → number r ≡ number_of (read_image bytes zeros) → Kept log (image_crossings bytes) (refuse (number r)) log
  unfolding image_crossings
  image-refused r e = refused-by (image_of bytes) r (rw read-zeros at e)

  passed-by : (a : Answer Image) → image_of bytes ≡ a → (l : Logged) (now out : List ℕ) → 6000 ≤ length log → 8192 ≤ length (memory_after zeros a) → 0 ≡ number_of a
      → logged_answer l now out ≡ log_call (machine_after empty_machine a) (memory_after zeros a) log
      → Kept log (a >>= logged_image) (ok (record { calls = l.calls; returns = l.returns })) out
  unfolding machine_after logged_of
  passed-by (refuse n) e l now out h w z q = absurd (let f = image-number bytes n e in omega (arith, f.0, z))
  passed-by (ok i) e l now out h w z q =
      let p = q ∙ logged-call (fresh_of (layout_of i)) (memory_of i) log (accepted-sound bytes i e) w h in
      ((λ j. ok (record { calls = (p j).calls; returns = (p j).returns })), ap (λ (x : LoggedRun). x.log) p)

  -- an accepted image
  pub image-logged : (m : Machine) (words : List ℕ) (l : Logged) (now out : List ℕ) → m ≡ machine_after empty_machine (read_image bytes zeros) → words ≡ memory_after zeros (read_image bytes zeros)
      → length words ≡ 8192 → 6000 ≤ length log → 0 ≡ number_of (read_image bytes zeros) → logged_answer l now out ≡ log_call m words log
      → Kept log (image_crossings bytes) (ok (record { calls = l.calls; returns = l.returns })) out
  unfolding image_crossings
  image-logged m words l now out e w n h z q =
      let b = rw (e, w, read-zeros) at q in
      passed-by (image_of bytes) refl l now out h (omega (arith, rw (w, read-zeros) at n)) (rw read-zeros at z) b

-- its crossings are few enough and small enough for the log
pub record ImageLogged (cs : List Crossing) : Type 0 where
  pub most : length cs ≤ 1000
  pub small : All Small cs

few-by : (bytes : List ℕ) (a : Answer Image) → image_of bytes ≡ a → (cs : List Crossing) → (a >>= logged_image) ≡ ok cs → ImageLogged cs
unfolding fresh_of
few-by bytes (refuse n) e cs q = no_value q
few-by bytes (ok i) e cs q =
    subst ImageLogged (the_value q)
    (record { most = (log-most 1000 (fresh_of (layout_of i)) (memory_of i)).1; small = crossings-small 1000 (fresh_of (layout_of i)) (memory_of i) (accepted-sound bytes i e, refl) })

pub image-few : (bytes : List ℕ) (cs : List Crossing) → image_crossings bytes ≡ ok cs → ImageLogged cs
unfolding image_crossings
image-few bytes cs q = few-by bytes (image_of bytes) refl cs q

-- what has totals has passed
pub totals-passed : (a : Answer (List Crossing)) (t : Totals) → ok t ≡ totals_of a → Passed a
totals-passed (refuse n) t e = no_value (sym e)
totals-passed (ok cs) t e = record { value = cs; is = refl }
