-- What every completed instruction keeps, every run keeps.
use Prim.Native.Nat.{ℕ, zero, suc, ◌+◌}
use mathlib.Core.Bool.{Bool, true, false}
use mathlib.Core.List.{List}
use mathlib.Core.Path.{◌≡◌, refl}
use Rattle.words.specs.Answer.{Answer, refuse, ok}
use Rattle.state.specs.declared.record.Machine.{Machine}
use Rattle.runs.specs.Step.{Completion, stopped, proceeded, crossing, Done, execute}
use Rattle.runs.specs.Run.{Ran, after, after_completion, run_from}

module _ (Kept : Machine → List ℕ → Type 0) (step : (m : Machine) (words : List ℕ) (d : Done) → execute m words ≡ ok d → Kept m words → Kept d.machine d.words) where
  abbrev KeptBy : Ran → Type 0
  KeptBy r = Kept r.machine r.words

  module _ (stretch : Bool) (k n : ℕ) where
    kept-event : (m : Machine) (words : List ℕ) (e : Completion) → Kept m words → KeptBy (run_from stretch k (n + 1) m words)
        → KeptBy (after_completion stretch (run_from stretch k (n + 1)) n m words e)
    kept-event m words stopped h rest = h
    kept-event m words proceeded h rest = rest
    kept-event m words crossing h rest = by stretch rest
      where
        by : (t : Bool) → KeptBy (run_from t k (n + 1) m words) → KeptBy (after_completion t (run_from t k (n + 1)) n m words crossing)
        by true rest = h
        by false rest = rest

    kept-after : (m : Machine) (words : List ℕ) → Kept m words → ((m : Machine) (words : List ℕ) → Kept m words → KeptBy (run_from stretch k (n + 1) m words))
        → (e : Answer Done) → execute m words ≡ e → KeptBy (after stretch (run_from stretch k (n + 1)) n m words e)
    kept-after m words h rest (refuse f) q = h
    kept-after m words h rest (ok d) q =
        let h' = step m words d q h in
        kept-event d.machine d.words d.completion h' (rest d.machine d.words h')

  pub run-keeps : (stretch : Bool) (k n : ℕ) (m : Machine) (words : List ℕ) → Kept m words → KeptBy (run_from stretch k n m words)
  unfolding run_from
  run-keeps stretch zero n m words h = h
  run-keeps stretch (suc k) n m words h = kept-after stretch k n m words h (run-keeps stretch k (n + 1)) (execute m words) refl
