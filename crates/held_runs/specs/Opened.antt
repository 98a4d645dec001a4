-- The record that a host's bytes hold.
use Rattle.std.specs.Prelude.{ℕ, ◌+◌, List}
use Rattle.words.specs.Answer.{Answer, refuse, ok, ◌>>◌}
use Rattle.state.specs.declared.record.Machine.{Machine}
use Rattle.snapshot_format.specs.RecordForm.{record_in, with_record}
use Rattle.snapshot_reader.specs.Formed.{formed}

-- 8 where the bytes are fewer than 1,079, 9 where no record has them; a record that is not sound is refused, with 9 too, by what is done with it
unfoldable pub opened : List ℕ → Answer Machine
opened bytes = formed bytes >> ok (record_in bytes)

-- the bytes after a call that gives another record; a refused call leaves them
abbrev pub replaced : List ℕ → Answer Machine → List ℕ
replaced bytes (refuse n) = bytes
replaced bytes (ok m) = with_record bytes m

-- a number below 0x10000, or 0x10000 plus a refusal's number
abbrev pub code_of : Answer ℕ → ℕ
code_of (refuse n) = 0x10000 + n
code_of (ok k) = k

-- what a place for a part of the answer holds after the call; a refused call leaves it
abbrev pub given : {A B : Type 0} → (A → B) → B → Answer A → B
given part before (refuse n) = before
given part before (ok x) = part x
