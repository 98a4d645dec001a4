-- A run of the record that bytes hold, with a log of its crossings.
use Rattle.std.specs.Prelude.{ℕ, List}
use Rattle.words.specs.Answer.{Answer, ok, ◌>>=◌}
use Rattle.runs.specs.Run.{Ran}
use Rattle.image_reader.specs.Reader.{mapped}
use Rattle.crossing_log.specs.Log.{LoggedRun, log_call}
use Rattle.held_runs.specs.Opened.{opened, given}
use Rattle.held_runs.specs.Runs.{ended_with}

-- the call on the record that bytes hold, the words and the log
unfoldable pub logged_on : List ℕ → List ℕ → List ℕ → Answer LoggedRun
logged_on bytes words log = opened bytes >>= (λ m. ok (log_call m words log))

-- the run without its log
abbrev pub run_in : Answer LoggedRun → Answer Ran
run_in logged = mapped (λ l. l.run) logged

-- what a place for a total holds after the call; a refused call, or a run that ended refused, leaves it
abbrev pub total_after : (LoggedRun → ℕ) → ℕ → Answer LoggedRun → ℕ
total_after total before logged = given (λ l. ended_with before (total l) l.run.ending) before logged
