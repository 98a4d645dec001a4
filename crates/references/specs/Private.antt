-- Definitions that only contracts of private functions cite.
use Rattle.std.specs.Prelude.{ℕ, Bool, not, List}
use Rattle.words.specs.Answer.{Answer, ok, ◌>>=◌}
use Rattle.state.specs.declared.record.Frame.{Frame}
use Rattle.state.specs.declared.record.Register.{Register}
use Rattle.capabilities.specs.Search.{covers_of}
use Rattle.recent.specs.Found.{found_of}

-- the source behind a reference to a word, through the registers
unfoldable pub found_source : List Register → ℕ → Frame → ℕ → ℕ → Bool → Answer ℕ
found_source recent depth frame segment word read = found_of recent depth frame (covers_of segment word 1 read (not read)) >>= (λ f. ok f.capability.source)
