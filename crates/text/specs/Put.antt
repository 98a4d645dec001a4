-- Bytes put into an output where they have room.
use Rattle.std.specs.Prelude.{ℕ, ◌+◌, Bool, List, leb, length, replicate, if◌then◌else◌}
use Rattle.image_format.specs.Output.{written}

-- they end within the output
abbrev pub has_room : List ℕ → ℕ → List ℕ → Bool
has_room output at bytes = leb (at + length bytes) (length output)

-- the place after them; the same place where they have no room
unfoldable pub place_after : List ℕ → ℕ → List ℕ → ℕ
place_after output at bytes = if has_room output at bytes then at + length bytes else at

-- the output with them; as it was where they have no room
unfoldable pub output_with : List ℕ → ℕ → List ℕ → List ℕ
output_with output at bytes = if has_room output at bytes then written output at bytes else output

-- a number of zeros with the bytes from the start on
abbrev pub printed_in : ℕ → List ℕ → List ℕ
printed_in size bytes = written (replicate size 0) 0 bytes
