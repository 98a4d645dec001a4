-- Isolation (noninterference and integrity over a stretch): what holds between two stretches of equal machines.
use Rattle.std.specs.Prelude.{ℕ, true, false, List, ◌⊎◌, ◌≡◌}
use Rattle.std.proofs.Math.Option.{some}
use Rattle.state.specs.declared.record.Machine.{Machine}
use Rattle.runs.specs.Run.{Ran}
use Rattle.isolation.specs.Visible.{may_see, could_write, existing, word_at}
use Rattle.isolation.specs.Stores.{Store, stored_all, received, Each}

-- two memories hold the same number in every word that the executing domain may see
abbrev pub Agree : Machine → List ℕ → List ℕ → Type 0
Agree m w v = (s k : ℕ) → may_see m s k ≡ true → word_at m w s k ≡ word_at m v s k

-- a word holds after a run what it held before
abbrev pub Unchanged : Machine → List ℕ → Ran → ℕ → ℕ → Type 0
Unchanged m w x s k = word_at m x.words s k ≡ word_at m w s k

-- z is the last number that a word received, of the stores xs that a run made, and the word holds it after the run
abbrev pub Received : Machine → Ran → List Store → ℕ → ℕ → ℕ → Type 0
Received m x xs s k z = (received s k xs ≡ some z) × (word_at m x.words s k ≡ z)

-- a store is in an existing word that the domain could write
abbrev pub Writable : Machine → Store → Type 0
Writable m a = (existing m a.segment a.word ≡ true) × (could_write m a.segment a.word ≡ true)

-- x and y are the runs of the machine m over the memories w and v, xs and ys the stores that they made;
-- rights and live frame are those of m, at the start
pub record Isolated (m : Machine) (w v : List ℕ) (x y : Ran) (xs ys : List Store) : Type 0 where
  -- equal records, counts, endings and fault numbers
  pub machine : x.machine ≡ y.machine
  pub count : x.count ≡ y.count
  pub ending : x.ending ≡ y.ending
  -- equal words wherever the domain may see
  pub seen : Agree m x.words y.words
  -- every existing word is unchanged in both or received the same number in both
  pub kept : (s k : ℕ) → existing m s k ≡ true
      → (Unchanged m w x s k × Unchanged m v y s k) ⊎ ((z : ℕ) × Received m x xs s k z × Received m y ys s k z)
  -- every existing word that the domain could not write is unchanged in both
  pub unwritten : (s k : ℕ) → existing m s k ≡ true → could_write m s k ≡ false → Unchanged m w x s k × Unchanged m v y s k
  -- both made the same stores in the same order
  pub stores : xs ≡ ys
  -- each in an existing word that the domain could write
  pub allowed : Each (Writable m) xs
  -- and each memory at the end is the one at the start with these stores made
  pub made : (x.words ≡ stored_all m.layout.lengths w xs) × (y.words ≡ stored_all m.layout.lengths v ys)
