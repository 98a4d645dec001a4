-- What follows from isolation: for a hidden word, for runs in which no crossing completes, and for a domain that could not write.
use Prim.Native.Nat.{ℕ, zero, suc, ◌+◌}
use mathlib.Core.Bool.{true, false}
use mathlib.Core.List.{List}
use mathlib.Core.Path.{◌≡◌, refl, ◌∙◌}
use lib.ListN.{length-set}
use Rattle.words.specs.Answer.{Answer, refuse, ok}
use Rattle.state.specs.declared.record.Machine.{Machine}
use Rattle.runs.specs.Step.{Completion, stopped, proceeded, crossing, Done, execute}
use Rattle.runs.specs.Run.{crossed, after, after_completion, run_from}
use Rattle.executions.proofs.Fit.{Fit}
use Rattle.isolation.proofs.Theorem.{isolation-fits}
use Rattle.isolation.proofs.Unseen.{hidden-agrees}
use Rattle.isolation.proofs.ReadOnly.{no_write}
use Rattle.isolation.specs.Statements.{RegistersSound, Secrecy, RunIsolation, Integrity, ReadOnly}

-- a run whose stretch does not end at a crossing is that stretch
abbrev Same : ℕ → ℕ → Machine → List ℕ → Type 0
Same k n m w = ((run_from true k n m w).ending ≡ crossed → ⊥) → run_from false k n m w ≡ run_from true k n m w

pub run-is-stretch : (k n : ℕ) (m : Machine) (w : List ℕ) → Same k n m w
unfolding run_from
run-is-stretch zero n m w h = refl
run-is-stretch (suc k) n m w h = by (execute m w) (run-is-stretch k (n + 1)) h
  where
    event : (e : Completion) (m : Machine) (w : List ℕ) → Same k (n + 1) m w → ((after_completion true (run_from true k (n + 1)) n m w e).ending ≡ crossed → ⊥)
        → after_completion false (run_from false k (n + 1)) n m w e ≡ after_completion true (run_from true k (n + 1)) n m w e
    event stopped m w rest h = refl
    event proceeded m w rest h = rest h
    event crossing m w rest h = absurd (h refl)

    by : (d : Answer Done) → ((m : Machine) (w : List ℕ) → Same k (n + 1) m w) → ((after true (run_from true k (n + 1)) n m w d).ending ≡ crossed → ⊥)
        → after false (run_from false k (n + 1)) n m w d ≡ after true (run_from true k (n + 1)) n m w d
    by (refuse f) rest h = refl
    by (ok d) rest h = event d.completion d.machine d.words (rest d.machine d.words) h

-- sound registers fit
fit : (m : Machine) → RegistersSound m → Fit m
fit m r = record { few = r.0; recent = r.1 }

pub secrecy : Secrecy
secrecy m limit w few sound hw s k x e hidden = isolation-fits m (fit m sound) limit w _ few hw (rw length-set hw) (hidden-agrees m w s k x e hidden)

pub run-isolation : RunIsolation
run-isolation m limit w few sound hw v hv h stays =
    let i = isolation-fits m (fit m sound) limit w v few hw hv h in
    rw (run-is-stretch limit 0 m w stays, run-is-stretch limit 0 m v (λ e. stays (i.ending ∙ e))) i

pub integrity : Integrity
integrity m limit w few sound hw s k e c = ((isolation-fits m (fit m sound) limit w w few hw hw (λ s k _. refl)).unwritten s k e c).0

pub read_only : ReadOnly
read_only m limit w few sound hw none dead s k e = integrity m limit w few sound hw s k e (no_write m none dead s k)
