-- What a stretch tells of the crossings of a run.
use Prim.Native.Nat.{ℕ, zero, suc, ◌+◌, ◌-◌, ◌≤◌}
use native.Mathlib.Omega.{arith}
use mathlib.Core.Bool.{Bool, true, false}
use mathlib.Core.List.{List, [], ◌∷◌}
use mathlib.Core.Path.{◌≡◌, refl, ap, ◌∙◌}
use Rattle.words.specs.Answer.{Answer, refuse, ok}
use Rattle.state.specs.declared.record.Machine.{Machine}
use Rattle.runs.specs.Step.{Completion, stopped, proceeded, crossing, Done, execute}
use Rattle.runs.specs.Run.{Ending, halted, spent, crossed, faulted, refused, Ran, ran, after, after_completion, run_from}
use Rattle.executions.specs.Statements.{Made}
use Rattle.executions.proofs.Made.{step-made}
use Rattle.executions.proofs.Stretches.{count_most}
use Rattle.crossing_log.specs.Crossings.{Crossing, crossing_to, then_crossings, crossings_after, crossings_of}

-- a run with j more counted
abbrev pub recounted : ℕ → Ran → Ran
recounted j r = ran r.machine r.words (j + r.count) r.ending

module _ (stretch : Bool) (j : ℕ) where
  abbrev Recounts : ℕ → ℕ → Type 0
  Recounts k n = (m : Machine) (words : List ℕ) → run_from stretch k (j + n) m words ≡ recounted j (run_from stretch k n m words)

  later : (k n : ℕ) → Recounts k (n + 1) → (m : Machine) (words : List ℕ) → run_from stretch k (j + n + 1) m words ≡ recounted j (run_from stretch k (n + 1) m words)
  later k n h m words = ap (λ (c : ℕ). run_from stretch k c m words) (let e : j + n + 1 ≡ j + (n + 1) = omega arith in e) ∙ h m words

  one_more : (n : ℕ) (m : Machine) (words : List ℕ) (e : Ending) → ran m words (j + n + 1) e ≡ ran m words (j + (n + 1)) e
  one_more n m words e = ap (λ (c : ℕ). ran m words c e) (omega arith)

  recounts-event : (k n : ℕ) → Recounts k (n + 1) → (m : Machine) (words : List ℕ) (e : Completion)
      → after_completion stretch (run_from stretch k (j + n + 1)) (j + n) m words e ≡ recounted j (after_completion stretch (run_from stretch k (n + 1)) n m words e)
  recounts-event k n h m words stopped = one_more n m words halted
  recounts-event k n h m words proceeded = later k n h m words
  recounts-event k n h m words crossing = by stretch (later k n h m words)
    where
      by : (t : Bool) → run_from t k (j + n + 1) m words ≡ recounted j (run_from t k (n + 1) m words)
          → after_completion t (run_from t k (j + n + 1)) (j + n) m words crossing ≡ recounted j (after_completion t (run_from t k (n + 1)) n m words crossing)
      by true q = one_more n m words crossed
      by false q = q

  recounts-after : (k n : ℕ) → Recounts k (n + 1) → (m : Machine) (words : List ℕ) (e : Answer Done)
      → after stretch (run_from stretch k (j + n + 1)) (j + n) m words e ≡ recounted j (after stretch (run_from stretch k (n + 1)) n m words e)
  recounts-after k n h m words (refuse f) = refl
  recounts-after k n h m words (ok d) = recounts-event k n h d.machine d.words d.completion

  pub recounts : (k n : ℕ) → Recounts k n
  unfolding run_from
  recounts zero n m words = refl
  recounts (suc k) n m words = recounts-after k n (recounts k (n + 1)) m words (execute m words)

-- what holds of a stretch that ended at a crossing
abbrev pub WhereCrossed : Ending → Type 0 → Type 0
WhereCrossed halted P = Unit {0}
WhereCrossed spent P = Unit {0}
WhereCrossed crossed P = P
WhereCrossed (faulted f) P = Unit {0}
WhereCrossed (refused f) P = Unit {0}

-- it has counted the crossing
any-ending : (e : Ending) (P : Type 0) → P → WhereCrossed e P
any-ending halted P p = tt
any-ending spent P p = tt
any-ending crossed P p = p
any-ending (faulted f) P p = tt
any-ending (refused f) P p = tt

module _ (n : ℕ) where
  abbrev Some : Ran → Type 0
  Some r = WhereCrossed r.ending (n + 1 ≤ r.count)

  some-event : (k : ℕ) (m : Machine) (words : List ℕ) (e : Completion) → Some (after_completion true (run_from true k (n + 1)) n m words e)
  some-event k m words stopped = tt
  some-event k m words proceeded = any-ending (run_from true k (n + 1) m words).ending (n + 1 ≤ (run_from true k (n + 1) m words).count) (count_most true k (n + 1) m words).0
  some-event k m words crossing = omega arith

  some_after : (k : ℕ) (m : Machine) (words : List ℕ) (e : Answer Done) → Some (after true (run_from true k (n + 1)) n m words e)
  some_after k m words (refuse f) = tt
  some_after k m words (ok d) = some-event k d.machine d.words d.completion

  pub crossed-some : (k : ℕ) (m : Machine) (words : List ℕ) → Some (run_from true k n m words)
  unfolding run_from
  crossed-some zero m words = tt
  crossed-some (suc k) m words = some_after k m words (execute m words)

-- the crossings of a run of limit instructions, of which a stretch from m was the first part
abbrev rest_by : ℕ → Machine → Ran → Ending → List Crossing
rest_by limit m r halted = []
rest_by limit m r spent = []
rest_by limit m r crossed = crossing_to m r.machine ∷ crossings_of (limit - r.count) r.machine r.words
rest_by limit m r (faulted f) = []
rest_by limit m r (refused f) = []

abbrev pub rest_of : ℕ → Machine → Ran → List Crossing
rest_of limit m r = rest_by limit m r r.ending

-- a stretch leaves the domain and the number of frames in use where it began, up to its crossing
abbrev Like : Machine → Machine → Type 0
Like m n = (n.registers.domain ≡ m.registers.domain) × (n.depth ≡ m.depth)

module _ (start : Machine) (k n : ℕ)
    (more : (m : Machine) (words : List ℕ) → Like start m → crossings_of k m words ≡ rest_of (n + 1 + k) start (run_from true k (n + 1) m words)) where
  crossings-event : (m : Machine) (words : List ℕ) → Like start m → (x : Machine) (now : List ℕ) (e : Completion) → Made m words e x
      → then_crossings (crossings_of k) m x now e ≡ rest_of (n + suc k) start (after_completion true (run_from true k (n + 1)) n x now e)
  crossings-event m words l x now stopped h = refl
  crossings-event m words l x now proceeded h =
      more x now (h.0 ∙ l.0, h.1 ∙ l.1) ∙ ap (λ (c : ℕ). rest_of c start (run_from true k (n + 1) x now)) (omega arith)
  crossings-event m words l x now crossing h =
      rw (l.0, l.1) (ap (λ (c : ℕ). crossing_to start x ∷ crossings_of c x now) (let e : k ≡ n + suc k - (n + 1) = omega arith in e))

  crossings-after : (m : Machine) (words : List ℕ) → Like start m → (e : Answer Done) → execute m words ≡ e
      → crossings_after (crossings_of k) m e ≡ rest_of (n + suc k) start (after true (run_from true k (n + 1)) n m words e)
  crossings-after m words l (refuse f) q = refl
  crossings-after m words l (ok d) q = crossings-event m words l d.machine d.words d.completion (step-made m words d q)

from-like : (start : Machine) (k n : ℕ) (m : Machine) (words : List ℕ) → Like start m → crossings_of k m words ≡ rest_of (n + k) start (run_from true k n m words)
unfolding crossings_of run_from
from-like start zero n m words l = refl
from-like start (suc k) n m words l = crossings-after start k n (from-like start k (n + 1)) m words l (execute m words) refl

pub crossings-stretch : (k n : ℕ) (m : Machine) (words : List ℕ) → crossings_of k m words ≡ rest_of (n + k) m (run_from true k n m words)
crossings-stretch k n m words = from-like m k n m words (refl, refl)
