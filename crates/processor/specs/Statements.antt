-- What is proved of runs and steps; the proofs stand in proofs/Steps.antt.
use Rattle.std.specs.Prelude.{ℕ, List, ◌≡◌}
use Rattle.state.specs.declared.record.Machine.{Machine}
use Rattle.processor.specs.Calls.{run_of, run_call, step_call}
use Rattle.processor.specs.Steps.{steps, as_step}

-- a run of limit n is n steps, each on what the one before left
abbrev pub RunSteps : Type 0
RunSteps = (n : ℕ) (m : Machine) (words : List ℕ) → run_of n m words ≡ steps n m words

-- the call of a step is the call of a run of limit 1
abbrev pub CallOne : Type 0
CallOne = (m : Machine) (words : List ℕ) → as_step (run_call 1 m words) ≡ step_call m words
