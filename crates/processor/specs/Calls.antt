-- Steps, runs and stretches: the calls on a machine.
use Rattle.std.specs.Prelude.{ℕ, Bool, true, false, List, eqb, if◌then◌else◌, Result, Ok, Err}
use Rattle.words.specs.Answer.{Answer, refuse, ok}
use Rattle.state.specs.declared.record.Machine.{Machine}
use Rattle.runs.specs.Step.{is_stop, Done, execute}
use Rattle.runs.specs.Run.{Ran, run_from, judged, called_of}
use Rattle.words.specs.Refusal.{status}
use Rattle.words.specs.declared.refusal.Refusal.{Refusal}
use Rattle.processor.specs.declared.Pace.{Pace}
use Rattle.processor.specs.declared.Pace.TheVariants as pace
use Rattle.processor.specs.declared.Stepped.{Stepped}

-- a run of a sound machine, and a stretch, which also stops right after its first completed crossing
abbrev pub run_of : ℕ → Machine → List ℕ → Ran
run_of limit m words = run_from false limit 0 m words

abbrev pub stretch_of : ℕ → Machine → List ℕ → Ran
stretch_of limit m words = run_from true limit 0 m words

-- the calls: a run and a stretch of any record, over any memory
unfoldable pub run_call : ℕ → Machine → List ℕ → Ran
run_call limit m words = called_of (run_of limit) m words

unfoldable pub stretch_call : ℕ → Machine → List ℕ → Ran
stretch_call limit m words = called_of (stretch_of limit) m words

-- a step's record and words, its number, 0 where it was completed, and whether it halted
pub record Step : Type 0 where
  pub machine : Machine
  pub words : List ℕ
  pub number : ℕ
  pub halted : Bool

abbrev pub stepped : Machine → List ℕ → Answer Done → Step
stepped m words (refuse n) = record { machine = m; words = words; number = n; halted = false }
stepped m words (ok d) = record { machine = d.machine; words = d.words; number = 0; halted = is_stop d.completion }

-- the call of a step
unfoldable pub step_call : Machine → List ℕ → Step
step_call m words = stepped m words (if eqb (judged m words) 0 then execute m words else refuse (judged m words))

-- what the code's result stands for
abbrev pub halts : Result Pace Refusal → Bool
halts (Ok pace.GoesOn) = false
halts (Ok pace.Halts) = true
halts (Err r) = false

abbrev pub step_answer : Stepped → List ℕ → Step
step_answer s words = record { machine = s.machine; words = words; number = status s.pace; halted = halts s.pace }
