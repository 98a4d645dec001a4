-- Definitions that only contracts of private functions cite.
use Rattle.std.specs.Prelude.{ℕ, List}
use Rattle.words.specs.Answer.{Answer, refuse, ok}
use Rattle.image_format.specs.Bytes.{joined}
use Rattle.image_format.specs.Output.{written}
use Rattle.crossing_log.specs.Crossings.{call, return, Crossing}
use Rattle.crossing_log.specs.Log.{crossing_bytes, of_kind}
use Rattle.log_report.specs.declared.image_log.Totals.{Totals}

-- how many calls and returns there are
abbrev pub totals_in : List Crossing → Totals
totals_in cs = record { calls = of_kind call cs; returns = of_kind return cs }

-- the totals of an image's crossings, or the refusal
abbrev pub totals_of : Answer (List Crossing) → Answer Totals
totals_of (refuse n) = refuse n
totals_of (ok cs) = ok (totals_in cs)

-- the log with an image's crossings; a refusal leaves it
abbrev pub log_with : List ℕ → Answer (List Crossing) → List ℕ
log_with log (refuse n) = log
log_with log (ok cs) = written log 0 (joined crossing_bytes cs)
