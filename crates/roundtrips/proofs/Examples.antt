-- The image of the paper's readings, and a refusal of each number from 1 to 7, computed.
use Prim.Native.Nat.{ℕ, ◌/◌, ◌%◌}
use mathlib.Core.Path.{◌≡◌, refl}
use mathlib.Core.List.{List, [], ◌∷◌, ◌++◌}
use lib.ListN.{take, replicate, set}
use Rattle.words.specs.Answer.{Answer, refuse, ok}
use Rattle.words.specs.Field.{field}
use Rattle.words.specs.PointerWord.{pointer_of}
use Rattle.layout_soundness.specs.SoundLayout.{all_from, gate_test, gates_test}
use Rattle.image_format.specs.Bytes.{pair_of, word_of, words_of, joined}
use Rattle.image_format.specs.Chunk.{header_of, chunk_of}
use Rattle.image_format.specs.Head.{head_fields, head_body, head_of}
use Rattle.image_format.specs.Segment.{segment_length, segment_fields, segment_body, segment_of, segments_of}
use Rattle.image_format.specs.Domain.{all_rights, domain_body, domain_of, domains_of}
use Rattle.image_format.specs.Image.{Image, padded, layout_of, chunks_of, image_of}
use Rattle.image_reader.specs.Reader.{read_image}

-- one segment of one word, HALT, and one domain that may execute it
abbrev example : List ℕ
example =
    8 ∷ 0 ∷ 1 ∷ 0 ∷ 1 ∷ 1 ∷ 0 ∷ 0 ∷ 0 ∷ 0 ∷ 0 ∷ 0 ∷
    8 ∷ 0 ∷ 2 ∷ 0 ∷ 0 ∷ 0 ∷ 0 ∷ 0 ∷ 0 ∷ 0 ∷ 0 ∷ 0 ∷
    2 ∷ 0 ∷ 3 ∷ 0 ∷ 0 ∷ 4 ∷
    0 ∷ 0 ∷ 4 ∷ 0 ∷ []

abbrev example_image : Image
example_image =
    record {
      start = record { word = 0; segment = 0; domain = 0 };
      segments = record { gates = 0; domain = 0; words = 0 ∷ [] } ∷ [];
      domains = record { stack = 0; rights = 4 ∷ [] } ∷ [];
    }

accepted : image_of example ≡ ok example_image
unfolding image_of head_of head_body head_fields chunk_of header_of pair_of word_of words_of pointer_of field segments_of segment_of segment_length segment_body segment_fields domains_of domain_of domain_body all_rights padded joined layout_of chunks_of gates_test gate_test all_from
accepted = refl

-- the header of a segment's chunk, whose body has this length
abbrev segment_header : ℕ → List ℕ
segment_header n = (n % 256) ∷ (n / 256) ∷ 2 ∷ 0 ∷ []

-- three segments of 4,096 words, 1 word, and a body of n bytes that is missing
abbrev many_words : ℕ → List ℕ
many_words n = set (take 12 example) 4 3 ++ segment_header 16388 ++ replicate 16388 0 ++ segment_header 8 ++ replicate 8 0 ++ segment_header n

-- the image cut short, and with one byte changed; at 8,193 words and at 8,192; the memory too short
refusals : List (Answer Image)
refusals =
    image_of [] ∷
    image_of (take 11 example) ∷
    image_of (take 33 example) ∷
    image_of (set example 2 2) ∷
    image_of (set example 12 4) ∷
    image_of (set example 13 1) ∷
    image_of (set example 16 2) ∷
    image_of (set example 11 128) ∷
    image_of (set example 29 16) ∷
    image_of (many_words 16388) ∷
    image_of (many_words 16384) ∷
    image_of (example ++ (0 ∷ [])) ∷
    read_image [] (replicate 8191 0) ∷
    []

numbers : refusals ≡
    refuse 1 ∷ refuse 1 ∷ refuse 1 ∷ refuse 2 ∷ refuse 3 ∷ refuse 1 ∷ refuse 4 ∷ refuse 4 ∷ refuse 4 ∷ refuse 5 ∷ refuse 1 ∷ refuse 6 ∷ refuse 7 ∷ []
unfolding refusals image_of head_of head_body head_fields chunk_of header_of pair_of word_of words_of pointer_of field segments_of segment_of segment_length segment_body segment_fields domains_of domain_of domain_body all_rights padded joined layout_of chunks_of gates_test gate_test all_from read_image
numbers = refl
