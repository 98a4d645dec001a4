-- The call for firmware in C.
use Rattle.std.specs.Prelude.{ℕ, List, ◌∷◌, leb, length}
use Rattle.words.specs.Answer.{Answer, ok, ◌>>=◌, ◌>>◌, require}
use Rattle.words.specs.Numbers.{output_too_short}
use Rattle.runs.specs.Run.{Ending, halted, spent, crossed, faulted, refused}
use Rattle.image_format.specs.Bytes.{pair_bytes}
use Rattle.entry.specs.ImageRun.{Final, image_run}

-- an ending's byte; no run of an image ends at a crossing or as refused
abbrev pub ending_byte : Ending → ℕ
ending_byte halted = 0
ending_byte (faulted n) = 1
ending_byte spent = 2
ending_byte crossed = 3
ending_byte (refused n) = 3

-- the fault, or 0
abbrev pub fault_byte : Ending → ℕ
fault_byte halted = 0
fault_byte (faulted n) = n
fault_byte spent = 0
fault_byte crossed = 0
fault_byte (refused n) = 0

-- ending, fault, and the count in two bytes
abbrev pub result_bytes : Final → List ℕ
result_bytes r = ending_byte r.ending ∷ fault_byte r.ending ∷ pair_bytes r.count

-- the bytes of the result, or the refusal; 8 comes before all of the image's
unfoldable pub entry_of : List ℕ → ℕ → List ℕ → Answer (List ℕ)
entry_of image limit result = require (leb 4 (length result)) output_too_short >> (image_run limit image >>= (λ r. ok (result_bytes r)))
