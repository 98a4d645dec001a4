-- What is proved of pointer words; the proofs stand in proofs/RoundTrips.antt.
use Rattle.std.specs.Prelude.{◌≡◌, ℕ, ◌^◌, ◌<◌}
use Rattle.words.specs.Answer.{ok}
use Rattle.words.specs.PointerWord.{pointer_word, pointer_of}
use Rattle.words.specs.declared.pointer.Pointer.{Pointer}

-- a pointer within its ranges, packed and unpacked, is the same
abbrev pub UnpackPacked : Type 0
UnpackPacked = (p : Pointer) → p.word < 2 ^ 12 → p.segment < 2 ^ 4 → pointer_of (pointer_word p) ≡ ok p

-- a word that holds a pointer, unpacked and packed, is the same
abbrev pub PackUnpacked : Type 0
PackUnpacked = (w : ℕ) (p : Pointer) → w < 2 ^ 32 → pointer_of w ≡ ok p → pointer_word p ≡ w
