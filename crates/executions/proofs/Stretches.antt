-- A run is its stretches, one after the other; the count of a run is within its limit.
use Prim.Native.Nat.{ℕ, zero, suc, ◌+◌, ◌≤◌}
use native.Mathlib.Omega.{arith}
use mathlib.Core.Bool.{Bool, true, false}
use mathlib.Core.List.{List}
use mathlib.Core.Path.{◌≡◌, refl, ap, ◌∙◌}
use Rattle.words.specs.Answer.{Answer, refuse, ok}
use Rattle.state.specs.declared.record.Machine.{Machine}
use Rattle.runs.specs.Step.{Completion, stopped, proceeded, crossing, Done, execute}
use Rattle.runs.specs.Run.{Ran, Ending, halted, spent, crossed, faulted, refused, after, after_completion, run_from}
use Rattle.processor.specs.Steps.{after_stretch}
use Rattle.executions.specs.Statements.{RunStretches, CountMost, CountSpent}

module _ (k n : ℕ) where
  abbrev Parted : Machine → List ℕ → Type 0
  Parted m words = run_from false k (n + 1) m words ≡ after_stretch (n + 1 + k) (run_from true k (n + 1) m words)

  event-parted : (m : Machine) (words : List ℕ) (e : Completion) → Parted m words
      → after_completion false (run_from false k (n + 1)) n m words e ≡ after_stretch (n + suc k) (after_completion true (run_from true k (n + 1)) n m words e)
  unfolding after_stretch
  event-parted m words stopped h = refl
  event-parted m words proceeded h = h ∙ ap (λ (l : ℕ). after_stretch l (run_from true k (n + 1) m words)) (omega arith)
  event-parted m words crossing h = ap (λ (l : ℕ). run_from false l (n + 1) m words) (omega arith)

  parted : (m : Machine) (words : List ℕ) (e : Answer Done) → ((m : Machine) (words : List ℕ) → Parted m words)
      → after false (run_from false k (n + 1)) n m words e ≡ after_stretch (n + suc k) (after true (run_from true k (n + 1)) n m words e)
  unfolding after_stretch
  parted m words (refuse f) h = refl
  parted m words (ok d) h = event-parted d.machine d.words d.completion (h d.machine d.words)

pub run-stretches : RunStretches
unfolding run_from after_stretch
run-stretches zero n m words = refl
run-stretches (suc k) n m words = parted k n m words (execute m words) (run-stretches k (n + 1))

-- what is known of the count c of a run that ends so: n had completed, and at most k were allowed
pub record Counted (k n c : ℕ) (e : Ending) : Type 0 where
  pub least : n ≤ c
  pub most : c ≤ n + k
  pub spent : e ≡ spent → c ≡ n + k

abbrev is_spent : Ending → ℕ
is_spent halted = 0
is_spent spent = 1
is_spent crossed = 0
is_spent (faulted f) = 0
is_spent (refused f) = 0

-- an ending that is not spent
ended : (k n c : ℕ) (e : Ending) → is_spent e ≡ 0 → n ≤ c → c ≤ n + k → Counted k n c e
ended k n c e o l h = record { least = l; most = h; spent = λ s. absurd (let z : is_spent e ≡ 1 = ap is_spent s in omega arith) }

counted-later : (k n c : ℕ) (e : Ending) → Counted k (n + 1) c e → Counted (suc k) n c e
counted-later k n c e h = record { least = omega (arith, h.least); most = omega (arith, h.most); spent = λ s. omega (arith, h.spent s) }

module _ (stretch : Bool) (k n : ℕ) where
  abbrev CountedRun : ℕ → ℕ → Ran → Type 0
  CountedRun k n r = Counted k n r.count r.ending

  counted-event : (m : Machine) (words : List ℕ) (e : Completion) → CountedRun k (n + 1) (run_from stretch k (n + 1) m words)
      → CountedRun (suc k) n (after_completion stretch (run_from stretch k (n + 1)) n m words e)
  counted-event m words stopped h = ended (suc k) n (n + 1) halted refl (omega arith) (omega arith)
  counted-event m words proceeded h = counted-later k n _ _ h
  counted-event m words crossing h = by stretch h
    where
      by : (t : Bool) → CountedRun k (n + 1) (run_from t k (n + 1) m words) → CountedRun (suc k) n (after_completion t (run_from t k (n + 1)) n m words crossing)
      by true h = ended (suc k) n (n + 1) crossed refl (omega arith) (omega arith)
      by false h = counted-later k n _ _ h

  counted-after : (m : Machine) (words : List ℕ) (e : Answer Done) → ((m : Machine) (words : List ℕ) → CountedRun k (n + 1) (run_from stretch k (n + 1) m words))
      → CountedRun (suc k) n (after stretch (run_from stretch k (n + 1)) n m words e)
  counted-after m words (refuse f) h = ended (suc k) n n (faulted f) refl (omega arith) (omega arith)
  counted-after m words (ok d) h = counted-event d.machine d.words d.completion (h d.machine d.words)

pub counted : (stretch : Bool) (k n : ℕ) (m : Machine) (words : List ℕ)
    → Counted k n (run_from stretch k n m words).count (run_from stretch k n m words).ending
unfolding run_from
counted stretch zero n m words = record { least = omega arith; most = omega arith; spent = λ s. omega arith }
counted stretch (suc k) n m words = counted-after stretch k n m words (execute m words) (counted stretch k (n + 1))

pub count_most : CountMost
count_most stretch k n m words = let c = counted stretch k n m words in (c.least, c.most)

pub count-spent : CountSpent
count-spent stretch k n m words e = (counted stretch k n m words).spent e
