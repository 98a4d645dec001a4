-- Stretches of any instruction set: decide may be any function of the record, the fetched word and the reader that goes on with registers that fit.
use Prim.Native.Nat.{ℕ, zero, suc, ◌+◌}
use mathlib.Core.Bool.{true}
use mathlib.Core.List.{List, [], ◌++◌}
use mathlib.Core.Path.{◌≡◌, refl}
use Rattle.words.specs.Answer.{Answer, ◌>>=◌}
use Rattle.state.specs.declared.record.Machine.{Machine}
use Rattle.memory.specs.Reader.{Reader, read_word, fetch}
use Rattle.runs.specs.Step.{Act, Done, decide, commit, execute}
use Rattle.runs.specs.Run.{Ran, ran, spent, after, run_from}
use Rattle.executions.proofs.Says.{Says}
use Rattle.executions.proofs.Fit.{Fit, GoesFit, decide-fits}
use Rattle.isolation.specs.Stores.{Store, stores_by, stores_after, stores_of}

-- where the registers of the record fit its frames, so do those that an instruction goes on with
abbrev pub GoesOn : (Machine → Answer ℕ → Reader → Answer Act) → Type 0
GoesOn decide = (m : Machine) → Fit m → (fetched : Answer ℕ) (read : Reader) → Says (GoesFit m) (decide m fetched read)

module _ (decide : Machine → Answer ℕ → Reader → Answer Act) where
  abbrev pub execute_with : Machine → List ℕ → Answer Done
  execute_with m words = decide m (fetch m words) (read_word m words) >>= commit m words

  -- what an instruction stores
  abbrev pub made_with : Machine → List ℕ → List Store
  made_with m words = stores_by m (decide m (fetch m words) (read_word m words))

  unfoldable pub stretch_with : ℕ → ℕ → Machine → List ℕ → Ran
  stretch_with zero n m words = ran m words n spent
  stretch_with (suc k) n m words = after true (stretch_with k (n + 1)) n m words (execute_with m words)

  unfoldable pub stores_with : ℕ → Machine → List ℕ → List Store
  stores_with zero m words = []
  stores_with (suc k) m words = made_with m words ++ stores_after (stores_with k) (execute_with m words)

-- the processor's decide goes on so, and its stretch is the one at it
pub goes_on : GoesOn decide
goes_on = decide-fits

pub stretch-is : (k n : ℕ) → stretch_with decide k n ≡ run_from true k n
unfolding stretch_with run_from execute
stretch-is zero n = refl
stretch-is (suc k) n = λ i m words. after true (stretch-is k (n + 1) i) n m words (execute m words)

pub stores-is : (k : ℕ) → stores_with decide k ≡ stores_of k
unfolding stores_with stores_of execute
stores-is zero = refl
stores-is (suc k) = λ i m words. made_with decide m words ++ stores_after (stores-is k i) (execute m words)
