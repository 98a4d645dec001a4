-- Reading an image into a machine and its memory.
use Rattle.std.specs.Prelude.{ℕ, List, ◌++◌, leb, length, drop}
use Rattle.words.specs.Answer.{Answer, refuse, ok, ◌>>◌, require}
use Rattle.state.specs.declared.record.Machine.{Machine}
use Rattle.fresh.specs.Fresh.{fresh_of}
use Rattle.words.specs.Numbers.{memory_too_short}
use Rattle.image_format.specs.Segment.{all_words}
use Rattle.image_format.specs.Image.{Image, image_of, layout_of}

-- the value that an answer gives, made into another
abbrev pub mapped : {A B : Type 0} → (A → B) → Answer A → Answer B
mapped f (refuse n) = refuse n
mapped f (ok a) = ok (f a)

-- the image, or the refusal; 7 comes before all of the image's
unfoldable pub read_image : List ℕ → List ℕ → Answer Image
read_image bytes words = require (leb 8192 (length words)) memory_too_short >> image_of bytes

-- the machine that comes of it: a fresh one, or the one that was there
unfoldable pub machine_after : Machine → Answer Image → Machine
machine_after m (refuse n) = m
machine_after m (ok i) = fresh_of (layout_of i)

-- the memory that comes of it: the image's words from the start of the memory, or the words that were there
unfoldable pub memory_after : List ℕ → Answer Image → List ℕ
memory_after words (refuse n) = words
memory_after words (ok i) = all_words i.segments ++ drop (length (all_words i.segments)) words
