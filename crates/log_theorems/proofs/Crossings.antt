-- The crossings of a run, instruction by instruction.
use Prim.Native.Nat.{ℕ, zero, suc, ◌+◌, ◌≤◌}
use native.Mathlib.Omega.{arith}
use native.Mathlib.Nat.{zero-add}
use mathlib.Core.Bool.{false}
use mathlib.Core.List.{List, [], ◌∷◌, ◌++◌}
use mathlib.Core.Logic.{⊎_elim}
use mathlib.Core.Path.{◌≡◌, refl, sym, ap, ◌∙◌}
use borrow.Author.Tests.{lt-ltb, le-ltb}
use lib.ListN.{length}
use Rattle.words.specs.Answer.{Answer, refuse, ok}
use Rattle.words.specs.Bit.{bit}
use Rattle.state.specs.declared.record.Machine.{Machine}
use Rattle.runs.specs.Step.{Completion, stopped, proceeded, crossing, Done, execute}
use Rattle.runs.specs.Run.{spent, Ran, after, after_completion, run_from}
use Rattle.executions.specs.Statements.{Made, indirect_by}
use Rattle.executions.proofs.Made.{step-made, call_facts, return-facts}
use Rattle.crossing_log.specs.Crossings.{call, return, Crossing, kind_of, crossing_to, then_crossings, crossings_after, crossings_of}
use Rattle.crossing_log.specs.Log.{same_kind, of_kind}
use Rattle.crossing_log.proofs.TurnLaws.{one-kind}
use Rattle.log_theorems.specs.Statements.{CallPutDown, ReturnPutDown, LogTotals, LogGoesOn}

-- the kinds, by the frames in use
kind-call : (a b : ℕ) → b ≡ a + 1 → kind_of a b ≡ call
kind-call a b e = rw (lt-ltb a b (omega (arith, e))) refl

kind-return : (a b : ℕ) → b + 1 ≡ a → kind_of a b ≡ return
kind-return a b e = rw (le-ltb a b (omega (arith, e))) refl

pub call-put-down : CallPutDown
call-put-down m n words gate e =
    let f = call_facts m n words gate e in
    rw (kind-call m.depth n.depth f.depth, f.registers) refl

pub return-put-down : ReturnPutDown
return-put-down m n q back e =
    let f = return-facts m n q back e in
    rw (kind-return m.depth n.depth f.depth, f.registers) refl

pub log-totals : LogTotals
unfolding of_kind
log-totals [] = refl
log-totals (c ∷ cs) = omega (arith, one-kind c.kind, log-totals cs)

-- one crossing changes the frames in use by its kind
one-balance : (m : Machine) (words : List ℕ) (n : Machine) → Made m words crossing n
    → m.depth + bit (same_kind call (crossing_to m n).kind) ≡ n.depth + bit (same_kind return (crossing_to m n).kind)
one-balance m words n h =
    ⊎_elim
    (λ c. let d = (call_facts m n words c.gate c.made).depth in rw (kind-call m.depth n.depth d) (omega (arith, d)))
    (λ r. let d = (return-facts m n (indirect_by m words) r.back r.made).depth in rw (kind-return m.depth n.depth d) (omega (arith, d))) h

-- so do all of a run
abbrev Balanced : ℕ → List Crossing → ℕ → Type 0
Balanced before cs after = before + of_kind call cs ≡ after + of_kind return cs

module _ (k n : ℕ) (more : (m : Machine) (words : List ℕ) → Balanced m.depth (crossings_of k m words) (run_from false k (n + 1) m words).machine.depth) where
  balance-event : (m : Machine) (words : List ℕ) (x : Machine) (now : List ℕ) (e : Completion) → Made m words e x
      → Balanced m.depth (then_crossings (crossings_of k) m x now e) (after_completion false (run_from false k (n + 1)) n x now e).machine.depth
  unfolding of_kind
  balance-event m words x now stopped h = ap (λ (y : Machine). y.depth + 0) (sym h)
  balance-event m words x now proceeded h = rw (← h.1) (more x now)
  balance-event m words x now crossing h = omega (arith, one-balance m words x h, more x now)

  balance-after : (m : Machine) (words : List ℕ) (e : Answer Done) → execute m words ≡ e
      → Balanced m.depth (crossings_after (crossings_of k) m e) (after false (run_from false k (n + 1)) n m words e).machine.depth
  unfolding of_kind
  balance-after m words (refuse f) q = refl
  balance-after m words (ok d) q = balance-event m words d.machine d.words d.completion (step-made m words d q)

pub balance : (k n : ℕ) (m : Machine) (words : List ℕ) → Balanced m.depth (crossings_of k m words) (run_from false k n m words).machine.depth
unfolding crossings_of run_from of_kind
balance zero n m words = refl
balance (suc k) n m words = balance-after k n (balance k (n + 1)) m words (execute m words) refl

-- a run has counted its crossings
abbrev Counts : ℕ → List Crossing → Ran → Type 0
Counts n cs r = n + length cs ≤ r.count

module _ (k n : ℕ) (more : (m : Machine) (words : List ℕ) → Counts (n + 1) (crossings_of k m words) (run_from false k (n + 1) m words)) where
  counts-event : (m x : Machine) (now : List ℕ) (e : Completion) → Counts n (then_crossings (crossings_of k) m x now e) (after_completion false (run_from false k (n + 1)) n x now e)
  counts-event m x now stopped = omega arith
  counts-event m x now proceeded = omega (arith, more x now)
  counts-event m x now crossing = omega (arith, more x now)

  counts-after : (m : Machine) (words : List ℕ) (e : Answer Done) → Counts n (crossings_after (crossings_of k) m e) (after false (run_from false k (n + 1)) n m words e)
  counts-after m words (refuse f) = omega arith
  counts-after m words (ok d) = counts-event m d.machine d.words d.completion

pub counts : (k n : ℕ) (m : Machine) (words : List ℕ) → Counts n (crossings_of k m words) (run_from false k n m words)
unfolding crossings_of run_from
counts zero n m words = omega arith
counts (suc k) n m words = counts-after k n (counts k (n + 1)) m words (execute m words)

-- a run that is spent goes on
module _ (j k n : ℕ)
    (more : (m : Machine) (words : List ℕ) → (run_from false j (n + 1) m words).ending ≡ spent
    → crossings_of (j + k) m words ≡ crossings_of j m words ++ crossings_of k (run_from false j (n + 1) m words).machine (run_from false j (n + 1) m words).words) where
  abbrev On : List Crossing → List Crossing → Ran → Type 0
  On all first r = r.ending ≡ spent → all ≡ first ++ crossings_of k r.machine r.words

  on-event : (m x : Machine) (now : List ℕ) (e : Completion)
      → On (then_crossings (crossings_of (j + k)) m x now e) (then_crossings (crossings_of j) m x now e) (after_completion false (run_from false j (n + 1)) n x now e)
  on-event m x now stopped h = absurd (let z : ◌≡◌ {A = ℕ} 0 1 = cc in omega arith)
  on-event m x now proceeded h = more x now h
  on-event m x now crossing h = ap (λ (cs : List Crossing). crossing_to m x ∷ cs) (more x now h)

  on-after : (m : Machine) (words : List ℕ) (e : Answer Done)
      → On (crossings_after (crossings_of (j + k)) m e) (crossings_after (crossings_of j) m e) (after false (run_from false j (n + 1)) n m words e)
  on-after m words (refuse f) h = absurd (let z : ◌≡◌ {A = ℕ} 0 1 = cc in omega arith)
  on-after m words (ok d) h = on-event m d.machine d.words d.completion h

goes_on : (j k n : ℕ) (m : Machine) (words : List ℕ) → (run_from false j n m words).ending ≡ spent
    → crossings_of (j + k) m words ≡ crossings_of j m words ++ crossings_of k (run_from false j n m words).machine (run_from false j n m words).words
unfolding crossings_of run_from
goes_on zero k n m words h = ap (λ (l : ℕ). crossings_of l m words) (zero-add k)
goes_on (suc j) k n m words h =
    ap (λ (l : ℕ). crossings_of l m words) (let e : suc j + k ≡ suc (j + k) = omega arith in e) ∙ on-after j k n (goes_on j k (n + 1)) m words (execute m words) h

pub log-goes-on : LogGoesOn
log-goes-on j k m words h = goes_on j k 0 m words h
