-- Definitions that only contracts of private functions cite.
use Rattle.std.specs.Prelude.{ℕ, ◌<◌, ◌≤◌, ◌≡◌, get_or}
use Rattle.state.specs.declared.record.Machine.{Machine}
use Rattle.state.specs.Record.{no_frame, free_frame}

-- a record with at most eight frames in use, and zeros in the others
pub record UnusedFree (m : Machine) : Type 0 where
  pub most : m.depth ≤ 8
  pub free : (i : ℕ) → m.depth ≤ i → i < 8 → get_or m.frames i no_frame ≡ free_frame
