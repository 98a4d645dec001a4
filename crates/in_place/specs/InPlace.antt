-- The answers of the calls by reference, with the record and the words that they leave.
use Rattle.std.specs.Prelude.{ℕ, List, Result}
use Rattle.words.specs.Refusal.{status}
use Rattle.words.specs.declared.refusal.Refusal.{Refusal}
use Rattle.state.specs.declared.record.Machine.{Machine}
use Rattle.runs.specs.Run.{Ran, ran, end_answer}
use Rattle.processor.specs.Calls.{Step, halts}
use Rattle.processor.specs.declared.Pace.{Pace}
use Rattle.in_place.specs.declared.RunResult.{RunResult}

abbrev pub step_in_place : Machine → List ℕ → Result Pace Refusal → Step
step_in_place m words r = record { machine = m; words = words; number = status r; halted = halts r }

abbrev pub ran_in_place : Machine → List ℕ → RunResult → Ran
ran_in_place m words r = ran m words r.count (end_answer r.end)
