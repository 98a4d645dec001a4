-- What is proved of images; the proofs stand in proofs/RoundTrips.antt.
use Rattle.std.specs.Prelude.{ℕ, ◌^◌, ◌<◌, ◌≤◌, true, List, ◌++◌, ◌≡◌, length, get_or, take, drop}
use Rattle.words.specs.Answer.{ok, number_of}
use Rattle.state.specs.declared.record.Layout.{Layout}
use Rattle.state.specs.declared.record.Machine.{Machine}
use Rattle.state.specs.Bases.{words_in}
use Rattle.fresh.specs.Fresh.{fresh_of}
use Rattle.soundness.specs.Sound.{sound_test}
use Rattle.image_format.specs.Image.{Image}
use Rattle.image_reader.specs.Reader.{read_image, machine_after, memory_after}
use Rattle.image_writer.specs.Writer.{write_image}

-- the lists of a layout are as long as its arrays
pub record Arrays (l : Layout) : Type 0 where
  pub lengths : length l.lengths ≡ 16
  pub gates : length l.gates ≡ 16
  pub gatedomains : length l.gatedomains ≡ 16
  pub stacks : length l.stacks ≡ 8
  pub rights : length l.rights ≡ 128

-- every number of a list is below n
abbrev pub Below : ℕ → List ℕ → Type 0
Below n xs = (k : ℕ) → get_or xs k 0 < n

-- what a read gives of a layout with its words: the fresh machine of the layout, and its words from the start of the memory
pub record GivesBack (l : Layout) (words bytes : List ℕ) (m : Machine) (ws : List ℕ) : Type 0 where
  pub number : number_of (read_image bytes ws) ≡ 0
  pub machine : machine_after m (read_image bytes ws) ≡ fresh_of l
  pub memory : memory_after ws (read_image bytes ws) ≡ take (words_in l.lengths) words ++ drop (words_in l.lengths) ws

-- the bytes that are written of a machine are read back as its fresh machine with the same words, whatever was there before
abbrev pub WriteThenRead : Type 0
WriteThenRead =
    (m : Machine) (words output bytes : List ℕ) → write_image m words output ≡ ok bytes → Arrays m.layout → Below (2 ^ 32) words
    → (n : Machine) (ws : List ℕ) → 8192 ≤ length ws → GivesBack m.layout words bytes n ws

-- the bytes that are read are written of the machine and the memory that come of them
abbrev pub ReadThenWrite : Type 0
ReadThenWrite =
    (bytes ws : List ℕ) (i : Image) → read_image bytes ws ≡ ok i → (m : Machine) (output : List ℕ) → Below 256 bytes → length bytes ≤ length output
    → write_image (machine_after m (read_image bytes ws)) (memory_after ws (read_image bytes ws)) output ≡ ok bytes

-- the machine of an accepted image is sound
abbrev pub ReadSound : Type 0
ReadSound =
    (bytes ws : List ℕ) (i : Image) → read_image bytes ws ≡ ok i → (m : Machine) → sound_test (machine_after m (read_image bytes ws)) ≡ true

-- an accepted image has at most 33,080 bytes
abbrev pub ReadLongest : Type 0
ReadLongest = (bytes ws : List ℕ) (i : Image) → read_image bytes ws ≡ ok i → length bytes ≤ 33080
