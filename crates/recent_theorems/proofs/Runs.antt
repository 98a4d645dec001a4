-- Runs and stretches of a machine with sound registers are the same with none.
use Prim.Native.Nat.{ℕ, zero, suc, ◌+◌}
use mathlib.Core.Bool.{Bool, true, false}
use mathlib.Core.List.{List}
use mathlib.Core.Path.{◌≡◌, refl, ap, ◌∙◌}
use Rattle.words.specs.Answer.{Answer, refuse, ok}
use Rattle.state.specs.declared.record.Machine.{Machine}
use Rattle.executions.specs.Statements.{SoundRecord}
use Rattle.executions.proofs.Sound.{step-sound}
use Rattle.runs.specs.Step.{Completion, stopped, proceeded, crossing, Done, execute}
use Rattle.runs.specs.Run.{Ran, after_completion, after, run_from}
use Rattle.recent_theorems.specs.Statements.{bare, bare_done, bare_ran, SameRun}
use Rattle.recent_theorems.proofs.Steps.{same_step}

-- where a fact P is kept by a step and makes one the same
module _ (P : Machine → Type 0) (same : (m : Machine) (words : List ℕ) → P m → bare_done (execute m words) ≡ execute (bare m) words)
    (kept : (m : Machine) (words : List ℕ) (d : Done) → P m → execute m words ≡ ok d → P d.machine) where
  runs_same : (stretch : Bool) (k n : ℕ) (m : Machine) (words : List ℕ) → P m → bare_ran (run_from stretch k n m words) ≡ run_from stretch k n (bare m) words
  unfolding run_from
  runs_same stretch zero n m words f = refl
  runs_same stretch (suc k) n m words f =
      by (execute m words) refl (λ m words g. runs_same stretch k (n + 1) m words g) ∙ ap (after stretch go n (bare m) words) (same m words f)
    where
      go : Machine → List ℕ → Ran
      go = run_from stretch k (n + 1)

      crosses : (t : Bool) (x : Machine) (w : List ℕ) → bare_ran (go x w) ≡ go (bare x) w
          → bare_ran (after_completion t go n x w crossing) ≡ after_completion t go n (bare x) w crossing
      crosses true x w h = refl
      crosses false x w h = h

      completed : (e : Completion) (x : Machine) (w : List ℕ) → bare_ran (go x w) ≡ go (bare x) w
          → bare_ran (after_completion stretch go n x w e) ≡ after_completion stretch go n (bare x) w e
      completed stopped x w h = refl
      completed proceeded x w h = h
      completed crossing x w h = crosses stretch x w h

      by : (x : Answer Done) → execute m words ≡ x → ((m : Machine) (words : List ℕ) → P m → bare_ran (go m words) ≡ go (bare m) words)
          → bare_ran (after stretch go n m words x) ≡ after stretch go n (bare m) words (bare_done x)
      by (refuse x) e rest = refl
      by (ok d) e rest = completed d.completion d.machine d.words (rest d.machine d.words (kept m words d f e))

pub same-run : SameRun
same-run m words s room stretch k n =
    runs_same SoundRecord (λ m words g. same_step m words g.0) (λ m words d g e. step-sound m words g d e) stretch k n m words (s, room)
