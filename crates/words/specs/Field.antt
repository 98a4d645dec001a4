-- Fields of a word.
use Rattle.std.specs.Prelude.{ℕ, zero, suc, ◌+◌, ◌*◌, ◌/◌, ◌%◌, ◌^◌, min}

-- the width bits of a word from bit low up
unfoldable pub field : ℕ → ℕ → ℕ → ℕ
field low width word = word / 2 ^ low % 2 ^ width

-- the bits that two numbers have in common, of their lowest n
unfoldable pub common : ℕ → ℕ → ℕ → ℕ
common zero a b = 0
common (suc n) a b = common n (a / 2) (b / 2) * 2 + min (a % 2) (b % 2)
