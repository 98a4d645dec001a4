-- Signed offsets, and word numbers that they are added to.
use Rattle.std.specs.Prelude.{ℕ, ◌-◌, ◌%◌, ◌^◌, ℤ, pos, negsuc, ◌+ℤ◌, ◌-ℤ◌, nat_le, nat_lt, if◌then◌else◌}
use Rattle.words.specs.Answer.{Answer, refuse, ok}
use Rattle.words.specs.Numbers.{out_of_range}

-- twelve bits in two's complement
unfoldable pub signed_of : ℕ → ℤ
signed_of n = if nat_lt n 2048 then pos n else (pos n -ℤ pos 4096)

-- a word number 0-4,095
abbrev pub in_range : ℤ → Answer ℕ
in_range (pos n) = if nat_le n 4095 then ok n else refuse out_of_range
in_range (negsuc n) = refuse out_of_range

-- a word number plus an offset
unfoldable pub displaced_of : ℕ → ℤ → Answer ℕ
displaced_of word offset = in_range (pos word +ℤ offset)

-- an integer modulo 2^32
unfoldable pub literal_of : ℤ → ℕ
literal_of (pos n) = n % 2 ^ 32
literal_of (negsuc n) = 2 ^ 32 - 1 - n % 2 ^ 32
