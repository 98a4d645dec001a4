-- Calls of step, each on what the one before left, make a stretch: only a crossing changes the number of frames in use.
use Prim.Native.Nat.{ℕ, zero, suc, ◌+◌, ◌≤◌}
use native.Mathlib.Omega.{arith}
use mathlib.Core.Bool.{true}
use mathlib.Core.List.{List}
use mathlib.Core.Logic.{⊎_elim}
use mathlib.Core.Path.{◌≡◌, refl}
use borrow.Author.Tests.{le-leb, eq-eqb, ne_eqb}
use lib.ListN.{length}
use Rattle.words.specs.Answer.{Answer, refuse, ok}
use Rattle.state.specs.declared.record.Machine.{Machine}
use Rattle.soundness.specs.Sound.{sound_test}
use Rattle.runs.specs.Step.{Completion, stopped, proceeded, crossing, Done, done, execute}
use Rattle.runs.specs.Run.{after, after_completion, run_from, judged}
use Rattle.processor.specs.Calls.{stepped, step_call}
use Rattle.executions.proofs.Made.{step-made, call_facts, return-facts}
use Rattle.executions.proofs.Sound.{step-sound}
use Rattle.executions.proofs.Words.{step-length}
use Rattle.executions.proofs.Numbers.{fault-number}
use Rattle.executions.specs.Called.{after_step, steps_called}
use Rattle.executions.specs.Statements.{SoundRecord, indirect_by, Made, StepsStretch}

-- only a crossing changes the number of frames in use
abbrev Told : Machine → Completion → Machine → Type 0
Told m stopped n = Unit {0}
Told m proceeded n = n.depth ≡ m.depth
Told m crossing n = n.depth ≡ m.depth → ⊥

told : (m : Machine) (words : List ℕ) (e : Completion) (n : Machine) → Made m words e n → Told m e n
told m words stopped n h = tt
told m words proceeded n h = h.1
told m words crossing n h = ⊎_elim (λ c q. omega (arith, q, (call_facts m n words c.gate c.made).depth)) (λ r q. omega (arith, q, (return-facts m n (indirect_by m words) r.back r.made).depth)) h

-- a call that is not refused
call-accepted : (m : Machine) (words : List ℕ) → sound_test m ≡ true → 8192 ≤ length words → step_call m words ≡ stepped m words (execute m words)
unfolding step_call judged
call-accepted m words sound long = rw (sound, le-leb 8192 (length words) long) refl

pub steps-stretch : StepsStretch
unfolding steps_called run_from
steps-stretch zero n m words sound long = refl
steps-stretch (suc k) n m words sound long =
    rw (call-accepted m words sound.0 long) (by (execute m words) refl (steps-stretch k (n + 1)))
  where
    completes : (e : Completion) (x : Machine) (now : List ℕ) → Told m e x → steps_called k (n + 1) x now ≡ run_from true k (n + 1) x now
        → after_step (steps_called k (n + 1)) n m (stepped m words (ok (done x now e))) ≡ after_completion true (run_from true k (n + 1)) n x now e
    completes stopped x now t h = refl
    completes proceeded x now t h = rw (eq-eqb x.depth m.depth t) h
    completes crossing x now t h = rw (ne_eqb x.depth m.depth t) refl

    by : (e : Answer Done) → execute m words ≡ e
        → ((m : Machine) (words : List ℕ) → SoundRecord m → 8192 ≤ length words → steps_called k (n + 1) m words ≡ run_from true k (n + 1) m words)
        → after_step (steps_called k (n + 1)) n m (stepped m words e) ≡ after true (run_from true k (n + 1)) n m words e
    by (refuse f) q more = rw (ne_eqb f 0 (λ z. omega (arith, z, (fault-number m words f q).0))) refl
    by (ok d) q more =
        completes d.completion d.machine d.words (told m words d.completion d.machine (step-made m words d q))
        (more d.machine d.words (step-sound m words sound d q) (rw (step-length m words d q) long))
