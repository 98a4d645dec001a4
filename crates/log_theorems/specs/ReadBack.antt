-- The crossings that the bytes of a log hold.
use Rattle.std.specs.Prelude.{ℕ, ◌+◌, ◌*◌, List, eqb, get_or, if◌then◌else◌}
use Rattle.image_format.specs.Image.{rows_from}
use Rattle.crossing_log.specs.Crossings.{Kind, call, return, Crossing}

-- the kind that a byte stands for
abbrev pub byte_kind : ℕ → Kind
byte_kind b = if eqb b 0 then call else return

-- the crossing in six bytes from a place on
abbrev pub crossing_at : List ℕ → ℕ → Crossing
crossing_at log at =
    record {
      kind = byte_kind (get_or log at 0);
      left = get_or log (at + 1) 0;
      entered = get_or log (at + 2) 0;
      segment = get_or log (at + 3) 0;
      word = get_or log (at + 4) 0 + get_or log (at + 5) 0 * 256;
    }

-- the first crossings of a log
abbrev pub records_in : ℕ → List ℕ → List Crossing
records_in count log = rows_from (λ i. crossing_at log (i * 6)) 0 count
