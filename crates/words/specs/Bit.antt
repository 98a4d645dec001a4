-- Flags as numbers.
use Rattle.std.specs.Prelude.{ℕ, Bool, true, false}

-- 1 for on, 0 for off
abbrev pub bit : Bool → ℕ
bit true = 1
bit false = 0
