-- Definitions that only contracts of private functions cite.
use Rattle.std.specs.Prelude.{◌≡◌, ℕ, ◌≤◌, slice_index}
use Rattle.words.specs.Field.{field}
use Rattle.words.specs.InstructionWord.{masks}

-- a word's opcode is one of the thirteen, and this is its mask in the table
pub record HasMask (word mask : ℕ) : Type 0 where
  pub known : field 24 8 word ≤ 12
  pub same : mask ≡ slice_index masks (field 24 8 word)
