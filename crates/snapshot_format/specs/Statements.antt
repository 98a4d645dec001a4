-- What is proved of the record as bytes; the proofs stand in proofs/RoundTrips.antt.
use Rattle.std.specs.Prelude.{ℕ, ◌<◌, true, List, ◌++◌, ◌≡◌, length, get_or}
use Rattle.words.specs.Answer.{ok}
use Rattle.state.specs.declared.record.Machine.{Machine}
use Rattle.state.specs.Record.{no_frame}
use Rattle.soundness.specs.Sound.{sound_test}
use Rattle.snapshot_format.specs.RecordForm.{held, record_bytes, with_record}

-- the lists of a record are as long as its arrays
pub record FullArrays (m : Machine) : Type 0 where
  pub lengths : length m.layout.lengths ≡ 16
  pub gates : length m.layout.gates ≡ 16
  pub gatedomains : length m.layout.gatedomains ≡ 16
  pub stacks : length m.layout.stacks ≡ 8
  pub rights : length m.layout.rights ≡ 128
  pub pointers : length m.pointers ≡ 8
  pub frames : length m.frames ≡ 8
  pub capabilities : (i : ℕ) → i < 8 → length (get_or m.frames i no_frame).capabilities ≡ 9
  pub recent : length m.recent ≡ 16

-- a sound record is read back from its bytes, whatever stands after them
abbrev pub RecordRoundTrip : Type 0
RecordRoundTrip = (m : Machine) (rest : List ℕ) → FullArrays m → sound_test m ≡ true → held (record_bytes m ++ rest) ≡ ok m

-- bytes that hold a record are that record's bytes
abbrev pub BytesRoundTrip : Type 0
BytesRoundTrip = (bytes : List ℕ) (m : Machine) → ((i : ℕ) → get_or bytes i 0 < 256) → held bytes ≡ ok m → with_record bytes m ≡ bytes
