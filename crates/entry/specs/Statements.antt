-- What is proved of the entry and of what it refuses; the proofs stand in proofs/.
use Rattle.std.specs.Prelude.{ℕ, ◌≤◌, List, ◌⊎◌, ◌≡◌}
use Rattle.words.specs.Answer.{refuse, ok}
use Rattle.words.specs.Numbers.{dead_gate}
use Rattle.image_format.specs.Image.{image_of}
use Rattle.entry.specs.ImageRun.{Final, image_run}
use Rattle.entry.specs.Entry.{ending_byte}

-- the byte of an ending is 0, 1 or 2
abbrev pub EndingListed : Type 0
EndingListed = (limit : ℕ) (bytes : List ℕ) (r : Final) → image_run limit bytes ≡ ok r → ending_byte r.ending ≤ 2

-- the numbers of an image's refusals: 1-6 and 10
abbrev pub Refusal : ℕ → Type 0
Refusal n = (1 ≤ n) × ((n ≤ 6) ⊎ (n ≡ dead_gate))

abbrev pub ImageNumber : Type 0
ImageNumber = (bytes : List ℕ) (n : ℕ) → image_of bytes ≡ refuse n → Refusal n
