-- Isolation, for any instruction set, then for the processor's: an induction over twins.
use Prim.Native.Nat.{ℕ, zero, suc, ◌+◌, ◌≤◌}
use native.Mathlib.Omega.{arith}
use mathlib.Core.Bool.{true}
use mathlib.Core.List.{List, ◌++◌}
use lib.ListN.{length}
use Rattle.words.specs.Answer.{Answer}
use Rattle.state.specs.declared.record.Machine.{Machine}
use Rattle.state.specs.Bases.{words_in}
use Rattle.memory.specs.Reader.{Reader}
use Rattle.runs.specs.Step.{Act, Done, moved_to, decide}
use Rattle.runs.specs.Run.{halted, spent, crossed, faulted, after}
use Rattle.processor.specs.Calls.{stretch_of}
use Rattle.executions.proofs.Fit.{Fit}
use Rattle.isolation.specs.Stores.{Store, stores_after, stores_of}
use Rattle.isolation.specs.Isolation.{Agree, Isolated}
use Rattle.isolation.proofs.Stretch.{GoesOn, goes_on, stretch_with, stretch-is, stores_with, stores-is}
use Rattle.isolation.proofs.Twins.{Cases, twins}
use Rattle.isolation.proofs.Alike.{Ready, Alike, ends, ready_on, alike-on, isolated}

module _ (decide : Machine → Answer ℕ → Reader → Answer Act) (goes : GoesOn decide) where
  -- what is claimed of at most k instructions more, c completed so far
  abbrev Holds : ℕ → ℕ → Type 0
  Holds k c =
      (m : Machine) (w v : List ℕ) → Ready m w v
      → Alike m w v (stretch_with decide k c m w) (stretch_with decide k c m v) (stores_with decide k m w) (stores_with decide k m v)

  module _ (k c : ℕ) (rest : Holds k (c + 1)) (m : Machine) (w v : List ℕ) (r : Ready m w v) where
    -- two instructions that stored xs and ys and ended in d and e, and what follows them
    abbrev Follows : List Store → List Store → Answer Done → Answer Done → Type 0
    Follows xs ys d e =
        Alike m w v (after true (stretch_with decide k (c + 1)) c m w d) (after true (stretch_with decide k (c + 1)) c m v e)
        (xs ++ stores_after (stores_with decide k) d) (ys ++ stores_after (stores_with decide k) e)

    cases : Cases decide goes m r.fit w v Follows
    cases = record {
      faults = λ f. ends m w v m c (faulted f);
      stops = ends m w v m (c + 1) halted;
      moves = λ a s o ps rs h made all.
          alike-on m a s o ps rs h made all w v _ _ _ _ (rest (moved_to m a s o ps rs) _ _ (ready_on m a s o ps rs h made all w v r));
      crosses = λ fetched read n e. ends m w v n (c + 1) crossed;
    }

  pub isolates : (k c : ℕ) → Holds k c
  unfolding stretch_with stores_with
  isolates zero c m w v r = ends m w v m c spent
  isolates (suc k) c m w v r = twins decide goes m r.fit w v _ (cases k c (isolates k (c + 1)) m w v r) r.agree

-- two stretches of one machine record whose registers fit, over memories that agree on the words that the executing domain may see
pub isolation-fits : (m : Machine) → Fit m → (limit : ℕ) (w v : List ℕ) → words_in m.layout.lengths ≤ 8192 → 8192 ≤ length w → 8192 ≤ length v
    → Agree m w v → Isolated m w v (stretch_of limit m w) (stretch_of limit m v) (stores_of limit m w) (stores_of limit m v)
isolation-fits m f limit w v few hw hv h =
    let r : Ready m w v = record { first = omega arith; second = omega arith; agree = h; fit = f } in
    isolated m w v r _ _ _ _ (rw (stretch-is, stores-is) at (isolates decide goes_on limit 0 m w v r))
