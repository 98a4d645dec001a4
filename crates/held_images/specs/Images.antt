-- Images read into the bytes of a record and its words, and written of them; the restart.
use Rattle.std.specs.Prelude.{ℕ, List, leb, length}
use Rattle.words.specs.Answer.{Answer, ok, ◌>>=◌, ◌>>◌, require}
use Rattle.words.specs.Numbers.{output_too_short, not_sound}
use Rattle.state.specs.declared.record.Machine.{Machine}
use Rattle.fresh.specs.Fresh.{fresh_of}
use Rattle.soundness.specs.Sound.{sound_test}
use Rattle.image_format.specs.Image.{Image, layout_of}
use Rattle.image_reader.specs.Reader.{read_image}
use Rattle.image_writer.specs.Writer.{write_image}
use Rattle.held_runs.specs.Opened.{opened}

-- the image, or the refusal; 8, where bytes have no room for a record, comes first
unfoldable pub image_read : List ℕ → List ℕ → List ℕ → Answer Image
image_read image bytes words = require (leb 1079 (length bytes)) output_too_short >> read_image image words

-- the fresh machine of an image
abbrev pub machine_read : Answer Image → Answer Machine
machine_read image = image >>= (λ i. ok (fresh_of (layout_of i)))

-- the image of the record that bytes hold, or the refusal
unfoldable pub image_written : List ℕ → List ℕ → List ℕ → Answer (List ℕ)
image_written bytes words output = opened bytes >>= (λ m. write_image m words output)

-- the fresh machine of the layout of the record that bytes hold
unfoldable pub restart_of : List ℕ → Answer Machine
restart_of bytes = opened bytes >>= (λ m. require (sound_test m) not_sound >> ok (fresh_of m.layout))
