-- Bytes written into an output.
use Rattle.std.specs.Prelude.{ℕ, ◌+◌, List, ◌++◌, length, take, drop}

-- the output with bytes written from a place on
unfoldable pub written : List ℕ → ℕ → List ℕ → List ℕ
written output at bytes = take at output ++ bytes ++ drop (at + length bytes) output
