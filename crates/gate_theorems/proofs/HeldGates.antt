-- The calls for C refuse bytes that hold a record with a dead gate.
use Prim.Native.Nat.{ℕ}
use mathlib.Core.List.{List}
use mathlib.Core.Path.{◌≡◌, refl, ap, ◌∙◌}
use Rattle.words.specs.Answer.{Answer, refuse, ok}
use Rattle.words.specs.Numbers.{not_sound}
use Rattle.state.specs.declared.record.Machine.{Machine}
use Rattle.runs.specs.Run.{Ran, ran, refused}
use Rattle.processor.specs.Calls.{Step, step_call, run_call, stretch_call}
use Rattle.executions.specs.Statements.{idle}
use Rattle.crossing_log.specs.Log.{LoggedRun, not_logged}
use Rattle.image_writer.specs.Writer.{output_after}
use Rattle.held_runs.specs.Opened.{replaced}
use Rattle.held_runs.specs.Runs.{ran_on, stepped_on, step_code, step_bytes, step_words}
use Rattle.held_images.specs.Images.{image_written, restart_of}
use Rattle.held_log.specs.HeldLog.{logged_on, run_in}
use Rattle.host.specs.Looks.{access_of, pointer_to, checked_on, segment_on}
use Rattle.gate_theorems.proofs.DeadGates.{dead-unsound, dead-refused}
use Rattle.gate_theorems.specs.Statements.{RanUnsound, NothingLogged, DeadHeld}

module _ (bytes words : List ℕ) (m : Machine) where
  ran-unsound : (r : Answer Ran) → r ≡ ok (ran m words 0 (refused not_sound)) → RanUnsound bytes words r
  ran-unsound r e = rw e (refl, (refl, refl))

  stepped-unsound : (s : Answer Step) → s ≡ ok (idle m words not_sound) → (step_code s ≡ not_sound) × ((step_bytes bytes s ≡ bytes) × (step_words words s ≡ words))
  stepped-unsound s e = rw e (refl, (refl, refl))

  logged-unsound : (log : List ℕ) (l : Answer LoggedRun) → l ≡ ok (not_logged m words log not_sound) → RanUnsound bytes words (run_in l) × NothingLogged log l
  logged-unsound log l e = rw e ((refl, (refl, refl)), (refl, λ before. (refl, refl)))

-- a refusal, and what comes of it
answered : {A B : Type 0} (x : Answer A) (f : Answer A → B) {b : B} → x ≡ refuse not_sound → f (refuse not_sound) ≡ b → (x ≡ refuse not_sound) × (f x ≡ b)
answered x f e q = (e, ap f e ∙ q)

pub dead-held : DeadHeld
unfolding output_after ran_on stepped_on logged_on image_written restart_of segment_on checked_on
dead-held bytes words m o d =
    let u = dead-refused m words d in
    record {
      run = λ limit. ran-unsound bytes words m (ran_on (run_call limit) bytes words) (simp (o, u.run limit));
      stretch = λ limit. ran-unsound bytes words m (ran_on (stretch_call limit) bytes words) (simp (o, u.stretch limit));
      log = λ log. logged-unsound bytes words m log (logged_on bytes words log) (simp (o, u.log log));
      step = stepped-unsound bytes words m (stepped_on step_call bytes words) (simp (o, u.step));
      write = λ output. answered (image_written bytes words output) (output_after output) (simp (o, u.write output)) refl;
      restart = answered (restart_of bytes) (replaced bytes) (simp (o, dead-unsound m d)) refl;
      segment = λ size number. simp (o, u.segment size number);
      check = λ write tag segment word. simp (o, u.check (access_of write) (pointer_to tag segment word));
    }
