-- What a logged run gives, as a number, bytes, words, log and totals.
use Prim.Native.Nat.{ℕ, ◌+◌}
use native.Mathlib.Omega.{arith}
use mathlib.Core.List.{List}
use mathlib.Core.Path.{◌≡◌, refl, ◌∙◌}
use Rattle.words.specs.Answer.{refuse, ok}
use Rattle.state.specs.declared.record.Machine.{Machine}
use Rattle.runs.specs.Run.{refused, end_answer}
use Rattle.crossing_log.specs.Log.{LoggedRun, log_call, logged_answer}
use Rattle.crossing_log.specs.declared.Logged.{Logged}
use Rattle.held_runs.specs.Opened.{opened, given}
use Rattle.held_runs.specs.Runs.{end_code, ended_with, ended_bytes, ran_code, ran_bytes, ran_words}
use Rattle.held_log.specs.HeldLog.{logged_on, run_in, total_after}

module _ (bytes words log : List ℕ) (calls returns : ℕ) where
  -- a number, a record, words, a log and two totals are those of the call
  abbrev pub Logs : ℕ → List ℕ → List ℕ → List ℕ → ℕ → ℕ → Type 0
  Logs code after memory records called returned =
      (code ≡ ran_code (run_in (logged_on bytes words log))) × ((after ≡ ran_bytes bytes (run_in (logged_on bytes words log))) × ((memory ≡ ran_words words (run_in (logged_on bytes words log)))
      × ((records ≡ given (λ l. l.log) log (logged_on bytes words log)) × ((called ≡ total_after (λ l. l.calls) calls (logged_on bytes words log)) × (returned ≡ total_after (λ l. l.returns) returns (logged_on bytes words log))))))

  pub log-refused : (n code : ℕ) → opened bytes ≡ refuse n → code ≡ end_code (refused n) + 0 → Logs code bytes words log calls returns
  unfolding logged_on
  log-refused n code e c =
      let k : end_code (refused n) + 0 ≡ end_code (refused n) = omega arith in
      rw e (c ∙ k, (refl, (refl, (refl, (refl, refl)))))

  ended : (m : Machine) (l : LoggedRun) → opened bytes ≡ ok m → l ≡ log_call m words log
      → Logs (end_code l.run.ending + l.run.count) (ended_bytes bytes l.run.machine l.run.ending) l.run.words l.log (ended_with calls l.calls l.run.ending) (ended_with returns l.returns l.run.ending)
  unfolding logged_on
  ended m l e q = rw e (rw q (refl, (refl, (refl, (refl, (refl, refl))))))

  pub log-ended : (m : Machine) (l : Logged) (code : ℕ) (after memory records : List ℕ) (called returned : ℕ) → opened bytes ≡ ok m → logged_answer l memory records ≡ log_call m words log
      → code ≡ end_code (end_answer l.outcome.end) + l.outcome.count → after ≡ ended_bytes bytes l.outcome.machine (end_answer l.outcome.end)
      → called ≡ ended_with calls l.calls (end_answer l.outcome.end) → returned ≡ ended_with returns l.returns (end_answer l.outcome.end) → Logs code after memory records called returned
  log-ended m l code after memory records called returned e q c k s r = rw (c, k, s, r) (ended m (logged_answer l memory records) e q)
