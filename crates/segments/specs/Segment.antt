-- The part of the memory that a segment occupies.
use Rattle.std.specs.Prelude.{ℕ, ◌+◌, ◌*◌, List, leb, ltb, length, take, drop, get_or}
use Rattle.words.specs.Answer.{number_of, Answer, refuse, ok, ◌>>◌, require}
use Rattle.words.specs.Numbers.{not_sound, memory_too_short, no_word}
use Rattle.state.specs.declared.record.Machine.{Machine}
use Rattle.state.specs.Bases.{base_of}
use Rattle.soundness.specs.Sound.{sound_test}

-- whether the host gets a segment of a memory of so many words
unfoldable pub segment_check : Machine → ℕ → ℕ → Answer (Unit {0})
segment_check m size number =
    require (sound_test m) not_sound >> require (leb 8192 size) memory_too_short >> require (ltb number m.layout.segments) no_word

-- the number that the host gets with a segment
abbrev pub segment_number : Machine → List ℕ → ℕ → ℕ
segment_number m words number = number_of (segment_check m (length words) number)

-- a number where there is no refusal, else 0
abbrev pub unless_refused : Answer (Unit {0}) → ℕ → ℕ
unless_refused (refuse n) k = 0
unless_refused (ok u) k = k

-- the word of the memory at which the part begins
abbrev pub part_start : Machine → ℕ → ℕ → ℕ
part_start m size number = unless_refused (segment_check m size number) (base_of m.layout.lengths number)

-- how many words it has
abbrev pub part_size : Machine → ℕ → ℕ → ℕ
part_size m size number = unless_refused (segment_check m size number) (get_or m.layout.lengths number 0)

-- the part that the host gets: as many words as the segment has, from its base up
abbrev pub segment_part : Machine → List ℕ → ℕ → List ℕ
segment_part m words number = take (part_size m (length words) number) (drop (part_start m (length words) number) words)

-- where word k lies in a memory that begins at this block and offset: a word has four bytes
abbrev pub word_place : ℕ × ℕ → ℕ → ℕ × ℕ
word_place start k = (start.0, k * 4 + start.1)
