-- Runs: at most so many instructions.
use Rattle.std.specs.Prelude.{ℕ, zero, suc, ◌+◌, Bool, List, eqb, leb, length, if◌then◌else◌}
use Rattle.words.specs.Answer.{Answer, refuse, ok}
use Rattle.words.specs.Refusal.{number}
use Rattle.words.specs.declared.refusal.Refusal.{Refusal}
use Rattle.words.specs.Numbers.{memory_too_short, not_sound}
use Rattle.state.specs.declared.record.Machine.{Machine}
use Rattle.soundness.specs.Sound.{sound_test}
use Rattle.runs.specs.Step.{Completion, stopped, proceeded, crossing, Done, execute}
use Rattle.runs.specs.declared.outcome.End.{End}
use Rattle.runs.specs.declared.outcome.End.TheVariants as end
use Rattle.runs.specs.declared.outcome.Outcome.{Outcome}

-- how a run ends; only a stretch ends at a crossing, and a call that is refused runs nothing
pub data Ending : Type 0 where
  halted spent crossed : Ending
  faulted refused : ℕ → Ending

pub record Ran : Type 0 where
  pub machine : Machine
  pub words : List ℕ
  pub count : ℕ
  pub ending : Ending

abbrev pub ran : Machine → List ℕ → ℕ → Ending → Ran
ran m words n e = record { machine = m; words = words; count = n; ending = e }

-- after a completed instruction: HALT ends a run; a crossing ends a stretch; else go says how it goes on
abbrev pub after_completion : Bool → (Machine → List ℕ → Ran) → ℕ → Machine → List ℕ → Completion → Ran
after_completion stretch go n m words stopped = ran m words (n + 1) halted
after_completion stretch go n m words proceeded = go m words
after_completion stretch go n m words crossing = if stretch then ran m words (n + 1) crossed else go m words

-- after an instruction: one that faults ends the run and is not counted
abbrev pub after : Bool → (Machine → List ℕ → Ran) → ℕ → Machine → List ℕ → Answer Done → Ran
after stretch go n m words (refuse f) = ran m words n (faulted f)
after stretch go n m words (ok d) = after_completion stretch go n d.machine d.words d.completion

-- at most k instructions more, n completed so far
unfoldable pub run_from : Bool → ℕ → ℕ → Machine → List ℕ → Ran
run_from stretch zero n m words = ran m words n spent
run_from stretch (suc k) n m words = after stretch (run_from stretch k (n + 1)) n m words (execute m words)

-- what every call on a machine judges first: 9, then 7
unfoldable pub judged : Machine → List ℕ → ℕ
judged m words = if sound_test m then (if leb 8192 (length words) then 0 else memory_too_short) else not_sound

-- a refused call leaves record and words
unfoldable pub called_of : (Machine → List ℕ → Ran) → Machine → List ℕ → Ran
called_of run m words = if eqb (judged m words) 0 then run m words else ran m words 0 (refused (judged m words))

-- a run of a record that was judged before; one with more than eight frames in use, which no sound record has, is refused
unfoldable pub judged_run : (Machine → List ℕ → Ran) → Machine → List ℕ → Ran
judged_run run m words = if leb m.depth 8 then run m words else ran m words 0 (refused not_sound)

-- what an end stands for whose reasons have these numbers
abbrev pub end_by : {N : Type 0} → (N → ℕ) → End N → Ending
end_by told end.Halted = halted
end_by told (end.Faulted r) = faulted (told r)
end_by told end.Spent = spent
end_by told end.Crossed = crossed
end_by told (end.Refused r) = refused (told r)

-- what the code's answers stand for
abbrev pub end_answer : End Refusal → Ending
end_answer e = end_by number e

abbrev pub ran_answer : Outcome → List ℕ → Ran
ran_answer o words = ran o.machine words o.count (end_answer o.end)
