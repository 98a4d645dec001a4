-- Writing a machine and its memory as an image.
use Rattle.std.specs.Prelude.{ℕ, List, ◌++◌, leb, length, drop}
use Rattle.words.specs.Answer.{Answer, refuse, ok, ◌>>◌, require}
use Rattle.state.specs.declared.record.Machine.{Machine}
use Rattle.soundness.specs.Sound.{sound_test}
use Rattle.words.specs.Numbers.{not_sound, memory_too_short, output_too_short}
use Rattle.image_format.specs.Image.{image_from, bytes_of}

-- the bytes of a machine's image, or the refusal
unfoldable pub write_image : Machine → List ℕ → List ℕ → Answer (List ℕ)
write_image m words output =
    require (sound_test m) not_sound >>
    require (leb 8192 (length words)) memory_too_short >>
    require (leb (length (bytes_of (image_from m.layout words))) (length output)) output_too_short >>
    ok (bytes_of (image_from m.layout words))

-- the length that comes of it, or the refusal
unfoldable pub write_result : Answer (List ℕ) → Answer ℕ
write_result (refuse n) = refuse n
write_result (ok bytes) = ok (length bytes)

-- the output that comes of it: the bytes from its start, or the bytes that were there
unfoldable pub output_after : List ℕ → Answer (List ℕ) → List ℕ
output_after output (refuse n) = output
output_after output (ok bytes) = bytes ++ drop (length bytes) output
