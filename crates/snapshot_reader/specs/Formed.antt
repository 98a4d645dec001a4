-- The record in bytes of any number.
use Rattle.std.specs.Prelude.{ℕ, List, leb, length, if◌then◌else◌}
use Rattle.words.specs.Answer.{Answer, ◌>>◌, require}
use Rattle.words.specs.Numbers.{output_too_short, not_sound}
use Rattle.state.specs.declared.record.Machine.{Machine}
use Rattle.fresh.specs.Fresh.{fresh_of, empty_layout}
use Rattle.snapshot_format.specs.RecordForm.{record_form, record_in}

-- whether bytes are those of some record: 8 where they are too few, 9 where no record has them
unfoldable pub formed : List ℕ → Answer (Unit {0})
formed bytes = require (leb 1079 (length bytes)) output_too_short >> require (record_form.proper bytes 0) not_sound

-- the record that bytes hold; the empty one where they are too few
unfoldable pub record_or : List ℕ → Machine
record_or bytes = if leb 1079 (length bytes) then record_in bytes else fresh_of empty_layout
