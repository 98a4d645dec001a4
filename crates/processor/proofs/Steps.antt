-- A run of limit n is n steps, one after the other; a step is a run of limit 1.
use Rattle.std.specs.Prelude.{if◌then◌else◌}
use Prim.Native.Nat.{ℕ, zero, suc, ◌+◌}
use mathlib.Core.Bool.{Bool, true, false}
use mathlib.Core.List.{List}
use mathlib.Core.Path.{◌≡◌, refl, sym, ap, ◌∙◌}
use lib.Dec.{eqb}
use Rattle.words.specs.Answer.{Answer, refuse, ok}
use Rattle.state.specs.declared.record.Machine.{Machine}
use Rattle.runs.specs.Step.{Completion, stopped, proceeded, crossing, Done, execute}
use Rattle.runs.specs.Run.{Ran, ran, halted, spent, faulted, refused, after, after_completion, run_from, judged, called_of}
use Rattle.processor.specs.Calls.{run_of, run_call, stepped, step_call}
use Rattle.processor.specs.Steps.{advance, advances, as_step}
use Rattle.processor.specs.Statements.{RunSteps, CallOne}

-- the first of the steps is made first
first_step : (n : ℕ) (r : Ran) → advances (suc n) r ≡ advances n (advance r)
unfolding advances
first_step zero r = refl
first_step (suc n) r = ap advance (first_step n r)

-- a run that has ended stays
halted-stays : (n : ℕ) (m : Machine) (words : List ℕ) (c : ℕ) → advances n (ran m words c halted) ≡ ran m words c halted
unfolding advances advance
halted-stays zero m words c = refl
halted-stays (suc n) m words c = ap advance (halted-stays n m words c)

faulted-stays : (n : ℕ) (m : Machine) (words : List ℕ) (c f : ℕ) → advances n (ran m words c (faulted f)) ≡ ran m words c (faulted f)
unfolding advances advance
faulted-stays zero m words c f = refl
faulted-stays (suc n) m words c f = ap advance (faulted-stays n m words c f)

module _ (n c : ℕ) where
  -- the first step, then n more
  abbrev one : Machine → List ℕ → Answer Done → Ran
  one m words e = after false (λ m words. ran m words (c + 1) spent) c m words e

  abbrev more : Machine → List ℕ → Ran
  more m words = advances n (ran m words (c + 1) spent)

  event-on : (m : Machine) (words : List ℕ) (e : Completion)
      → advances n (after_completion false (λ m words. ran m words (c + 1) spent) c m words e) ≡ after_completion false more c m words e
  event-on m words stopped = halted-stays n m words (c + 1)
  event-on m words proceeded = refl
  event-on m words crossing = refl

  step-on : (m : Machine) (words : List ℕ) (e : Answer Done) → advances n (one m words e) ≡ after false more c m words e
  step-on m words (refuse f) = faulted-stays n m words c f
  step-on m words (ok d) = event-on d.machine d.words d.completion

-- n steps of a run that has completed c
pub steps-from : (n c : ℕ) (m : Machine) (words : List ℕ) → run_from false n c m words ≡ advances n (ran m words c spent)
unfolding run_from advances advance
steps-from zero c m words = refl
steps-from (suc n) c m words =
    (λ i. after false (λ m words. steps-from n (c + 1) m words i) c m words (execute m words)) ∙
    sym (step-on n c m words (execute m words)) ∙ sym (first_step n (ran m words c spent))

pub run-steps : RunSteps
run-steps n m words = steps-from n 0 m words

-- a step is a run of limit 1
module _ (m : Machine) (words : List ℕ) where
  event-one : (n : Machine) (w : List ℕ) (e : Completion) → as_step (after_completion false (run_from false 0 1) 0 n w e) ≡ stepped m words (ok (record { machine = n; words = w; completion = e }))
  unfolding run_from
  event-one n w stopped = refl
  event-one n w proceeded = refl
  event-one n w crossing = refl

  done-one : (e : Answer Done) → as_step (after false (run_from false 0 1) 0 m words e) ≡ stepped m words e
  done-one (refuse f) = refl
  done-one (ok d) = event-one d.machine d.words d.completion

  pub run-one : as_step (run_of 1 m words) ≡ stepped m words (execute m words)
  unfolding run_from
  run-one = done-one (execute m words)

-- and so are the calls
pub call-one : CallOne
unfolding run_call called_of step_call
call-one m words = by (eqb (judged m words) 0)
  where
    by : (t : Bool)
        → as_step (if t then run_of 1 m words else ran m words 0 (refused (judged m words))) ≡ stepped m words (if t then execute m words else refuse (judged m words))
    by true = run-one m words
    by false = refl
