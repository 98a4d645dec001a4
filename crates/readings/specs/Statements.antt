-- What is proved of the readings; the proof stands in proofs/Hold.antt.
use mathlib.Core.List.{Memᴰ}
use Rattle.std.specs.Prelude.{◌≡◌}
use Rattle.readings.specs.Question.{answer, Row}
use Rattle.readings.specs.Table.{table}

-- every question of the table has the answer that is due
abbrev pub Readings : Type 0
Readings = (r : Row) → Memᴰ r table → answer r.asked ≡ r.due
