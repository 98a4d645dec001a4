-- A fault leaves record and words as they were before the instruction, a refused call as they came in.
use Rattle.std.specs.Prelude.{if◌then◌else◌}
use Prim.Native.Nat.{ℕ, zero, suc, ◌+◌}
use mathlib.Core.Bool.{Bool, true, false}
use mathlib.Core.List.{List}
use mathlib.Core.Path.{◌≡◌, refl, ap}
use borrow.Author.Tests.{ne_eqb}
use lib.Dec.{eqb}
use Rattle.words.specs.Answer.{Answer, refuse, ok}
use Rattle.state.specs.declared.record.Machine.{Machine}
use Rattle.runs.specs.Step.{Completion, stopped, proceeded, crossing, Done, execute}
use Rattle.runs.specs.Run.{Ran, ran, Ending, halted, spent, crossed, faulted, refused, after, after_completion, run_from, judged, called_of}
use Rattle.processor.specs.Calls.{run_of, stretch_of, run_call, stretch_call, stepped, step_call}
use Rattle.executions.specs.Statements.{idle, FaultLeaves, RunFaulted, RefusedLeaves, RefusedStretchLeaves, RefusedStep, RefusedRun, RefusedStretch}

-- a step whose number is not 0 left record and words, and did not halt
pub stepped-leaves : (m : Machine) (words : List ℕ) (e : Answer Done) → ((stepped m words e).number ≡ 0 → ⊥) → stepped m words e ≡ idle m words (stepped m words e).number
stepped-leaves m words (refuse n) h = refl
stepped-leaves m words (ok d) h = absurd (h refl)

pub fault-leaves : FaultLeaves
unfolding step_call
fault-leaves m words h = stepped-leaves m words (if eqb (judged m words) 0 then execute m words else refuse (judged m words)) h

refused-called : (run : Machine → List ℕ → Ran) (m : Machine) (words : List ℕ) → (judged m words ≡ 0 → ⊥) → called_of run m words ≡ ran m words 0 (refused (judged m words))
unfolding called_of
refused-called run m words h = simp (ne_eqb _ _ h)

pub refused-step : RefusedStep
unfolding step_call
refused-step m words h = simp (ne_eqb _ _ h)

pub refused-run : RefusedRun
unfolding run_call
refused-run m words limit h = refused-called (run_of limit) m words h

pub refused-stretch : RefusedStretch
unfolding stretch_call
refused-stretch m words limit h = refused-called (stretch_of limit) m words h

-- what an ending says of the record and the words that are left: the instruction there gives the fault; no run is refused
abbrev pub Ends : Ran → Ending → Type 0
Ends r halted = Unit {0}
Ends r spent = Unit {0}
Ends r crossed = Unit {0}
Ends r (faulted f) = execute r.machine r.words ≡ refuse f
Ends r (refused n) = ⊥

module _ (stretch : Bool) (k n : ℕ) where
  abbrev EndsSo : Ran → Type 0
  EndsSo r = Ends r r.ending

  event-ends : (m : Machine) (words : List ℕ) (e : Completion) → EndsSo (run_from stretch k (n + 1) m words) → EndsSo (after_completion stretch (run_from stretch k (n + 1)) n m words e)
  event-ends m words stopped h = tt
  event-ends m words proceeded h = h
  event-ends m words crossing h = by stretch h
    where
      by : (t : Bool) → EndsSo (run_from t k (n + 1) m words) → EndsSo (after_completion t (run_from t k (n + 1)) n m words crossing)
      by true h = tt
      by false h = h

  step-ends : (m : Machine) (words : List ℕ) → ((m : Machine) (words : List ℕ) → EndsSo (run_from stretch k (n + 1) m words))
      → (e : Answer Done) → execute m words ≡ e → EndsSo (after stretch (run_from stretch k (n + 1)) n m words e)
  step-ends m words h (refuse f) q = q
  step-ends m words h (ok d) q = event-ends d.machine d.words d.completion (h d.machine d.words)

pub run_ends : (stretch : Bool) (k n : ℕ) (m : Machine) (words : List ℕ) → Ends (run_from stretch k n m words) (run_from stretch k n m words).ending
unfolding run_from
run_ends stretch zero n m words = tt
run_ends stretch (suc k) n m words = step-ends stretch k n m words (run_ends stretch k (n + 1)) (execute m words) refl

pub run-faulted : RunFaulted
run-faulted stretch k n m words f e = rw e at (run_ends stretch k n m words)

pub run-accepted : (stretch : Bool) (k n : ℕ) (m : Machine) (words : List ℕ) (f : ℕ) → (run_from stretch k n m words).ending ≡ refused f → ⊥
run-accepted stretch k n m words f e = rw e at (run_ends stretch k n m words)

-- a call whose ending is refused left record and words, and counted nothing
refused-ending : (run : Machine → List ℕ → Ran) (m : Machine) (words : List ℕ) (n : ℕ) → ((run m words).ending ≡ refused n → ⊥)
    → (called_of run m words).ending ≡ refused n → called_of run m words ≡ ran m words 0 (refused n)
unfolding called_of
refused-ending run m words n h e = by (eqb (judged m words) 0) e
  where
    by : (t : Bool) → (if t then run m words else ran m words 0 (refused (judged m words))).ending ≡ refused n
        → (if t then run m words else ran m words 0 (refused (judged m words))) ≡ ran m words 0 (refused n)
    by true e = absurd (h e)
    by false e = ap (ran m words 0) e

pub refused-leaves : RefusedLeaves
unfolding run_call
refused-leaves limit m words n e = refused-ending (run_of limit) m words n (run-accepted false limit 0 m words n) e

pub refused-stretch-leaves : RefusedStretchLeaves
unfolding stretch_call
refused-stretch-leaves limit m words n e = refused-ending (stretch_of limit) m words n (run-accepted true limit 0 m words n) e
