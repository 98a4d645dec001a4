-- Calls of step, each on the record and the words that the one before left.
use Rattle.std.specs.Prelude.{ℕ, zero, suc, ◌+◌, List, eqb, if◌then◌else◌}
use Rattle.state.specs.declared.record.Machine.{Machine}
use Rattle.runs.specs.Run.{Ran, ran, halted, spent, crossed, faulted}
use Rattle.processor.specs.Calls.{Step, step_call}

-- after a call on m that gave s: they end at a number, at HALT, and where the number of frames in use has changed
abbrev pub after_step : (Machine → List ℕ → Ran) → ℕ → Machine → Step → Ran
after_step go n m s =
    if eqb s.number 0 then (
    if s.halted then ran s.machine s.words (n + 1) halted else (
    if eqb s.machine.depth m.depth then go s.machine s.words else ran s.machine s.words (n + 1) crossed))
    else ran s.machine s.words n (faulted s.number)

-- at most k calls more, n completed so far
unfoldable pub steps_called : ℕ → ℕ → Machine → List ℕ → Ran
steps_called zero n m words = ran m words n spent
steps_called (suc k) n m words = after_step (steps_called k (n + 1)) n m (step_call m words)
