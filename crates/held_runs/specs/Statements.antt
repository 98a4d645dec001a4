-- What is proved of the record that a host's bytes hold; the proof stands in proofs/OpenLaws.antt.
use Rattle.std.specs.Prelude.{ℕ, List, ◌≡◌}
use Rattle.words.specs.Answer.{ok, ◌>>=◌, ◌>>◌, require}
use Rattle.words.specs.Numbers.{not_sound}
use Rattle.soundness.specs.Sound.{sound_test}
use Rattle.snapshot_format.specs.RecordForm.{held}
use Rattle.held_runs.specs.Opened.{opened}

-- the sound record that bytes hold is the one that is opened and then judged
abbrev pub HeldOpened : Type 0
HeldOpened = (bytes : List ℕ) → held bytes ≡ (opened bytes >>= (λ m. require (sound_test m) not_sound >> ok m))
