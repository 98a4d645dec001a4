-- What the place of a register stands for.
use Rattle.std.specs.Prelude.{ℕ, List, Option, Some, None}
use Rattle.words.specs.Answer.{Answer, refuse, ok}
use Rattle.words.specs.Numbers.{no_match}
use Rattle.state.specs.declared.record.Register.{Register}
use Rattle.lent_registers.specs.Columns.{register_at}

-- the register there, if there is a place
abbrev pub held_answer : List ℕ → Option ℕ → Answer Register
held_answer xs (Some i) = ok (register_at xs i)
held_answer xs None = refuse no_match
