-- What is proved of existing words; the proof stands in proofs/Counted.antt.
use Rattle.std.specs.Prelude.{ℕ, true, ◌&&◌, ◌≡◌, ltb, get_or}
use Rattle.state.specs.declared.record.Machine.{Machine}
use Rattle.soundness.specs.Sound.{sound_test}
use Rattle.references.specs.Static.{exists}

-- in a sound record a word exists where its segment is below the number of segments and the word below the segment's length
abbrev pub ExistsCounted : Type 0
ExistsCounted =
    (m : Machine) (segment word : ℕ) → sound_test m ≡ true
    → exists m.layout.lengths segment word ≡ (ltb segment m.layout.segments && ltb word (get_or m.layout.lengths segment 0))
