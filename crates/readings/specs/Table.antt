-- The readings that the paper marks to be proved, and the borders of its ranges: a question and its answer a row.
use Rattle.std.specs.Prelude.{ℕ, true, false, List, [], ◌∷◌, ◌++◌, pos, negsuc, replicate}
use Rattle.words.specs.Answer.{refuse, ok}
use Rattle.readings.specs.Scene.{Scene, untagged_to, tagged_to, read_on, write_on}
use Rattle.readings.specs.Question.{Row, pointer, instruction, displace, reading, writing, passing, executing, ◌gives◌}
use Rattle.readings.specs.Word.{word_rows}
use Rattle.readings.specs.Effect.{effect_rows}
use Rattle.readings.specs.Gate.{call_on, gate_rows}
use Rattle.readings.specs.HandedOn.{handed_on_rows}
use Rattle.readings.specs.Reach.{reach_rows}
use Rattle.readings.specs.Border.{borders}

-- a segment of 10 words, on which the domain has the rights r
abbrev ten_words : ℕ → Scene
ten_words r = record { lengths = 10 ∷ []; gates = []; rights = (r ∷ []) ∷ []; capabilities = [] }

-- a read capability on segment 3, words 4-7, the only one on that segment; its source, domain 1, may read and write there
abbrev four_words : Scene
four_words =
    record {
      lengths = 1 ∷ 1 ∷ 12 ∷ 12 ∷ [];
      gates = [];
      rights = (4 ∷ []) ∷ (0 ∷ 0 ∷ 3 ∷ 3 ∷ []) ∷ [];
      capabilities = write_on 2 0 12 1 ∷ read_on 3 4 4 1 ∷ [];
    }

-- two read capabilities on the same words: the first's source, domain 1, has no R, the second's, domain 2, has it
abbrev two_matches : Scene
two_matches = record { lengths = 8 ∷ []; gates = []; rights = (4 ∷ []) ∷ (2 ∷ []) ∷ (1 ∷ []) ∷ []; capabilities = read_on 0 4 4 1 ∷ read_on 0 4 4 2 ∷ [] }

-- read and write on the same words in two capabilities; segment 1 is a gate into domain 1
abbrev read_and_write : Scene
read_and_write =
    record {
      lengths = 7 ∷ 1 ∷ 8 ∷ [];
      gates = 0 ∷ 1 ∷ [];
      rights = (5 ∷ 8 ∷ []) ∷ (0 ∷ 4 ∷ 3 ∷ []) ∷ [];
      capabilities = read_on 2 4 4 1 ∷ write_on 2 4 4 1 ∷ [];
    }

-- CALL through that gate with one argument, words 4-7 of segment 2, that has this mode word
abbrev call_with : ℕ → List ℕ
call_with mode = call_on 0x00001000 1 0x80002004 mode

-- a segment of n words that the domain may read and execute
abbrev program : ℕ → Scene
program n = record { lengths = n ∷ []; gates = []; rights = (5 ∷ []) ∷ []; capabilities = [] }

-- an instruction, and a segment of 10 words on which the domain has the rights r
abbrev ten_beside : ℕ → Scene
ten_beside r = record { lengths = 1 ∷ 10 ∷ []; gates = []; rights = (4 ∷ r ∷ []) ∷ []; capabilities = [] }

-- a row for each rights byte
abbrev under_rights : (ℕ → Row) → List Row
under_rights f =
    f 0 ∷ f 1 ∷ f 2 ∷ f 3 ∷ f 4 ∷ f 5 ∷ f 6 ∷ f 7 ∷ f 8 ∷ f 9 ∷ f 10 ∷ f 11 ∷ f 12 ∷ f 13 ∷ f 14 ∷ f 15 ∷ []

-- the readings of the paper, then the other rows by what they ask
abbrev pub table : List Row
table =
    (pointer 0x80001005 gives ok (1 ∷ 1 ∷ 5 ∷ [])) ∷
    (pointer 0x00010000 gives refuse 26) ∷
    (instruction 0x0100A003 gives ok (1 ∷ 0 ∷ 2 ∷ 1 ∷ 3 ∷ [])) ∷
    (displace 4095 (pos 1) gives refuse 23) ∷
    (displace 0 (negsuc 0) gives refuse 23) ∷
    (reading (ten_words 1) (untagged_to 0 9) gives ok (9 ∷ [])) ∷
    (reading (ten_words 14) (untagged_to 0 9) gives refuse 22) ∷
    (writing (ten_words 2) (untagged_to 0 9) gives ok (9 ∷ [])) ∷
    (writing (ten_words 13) (untagged_to 0 9) gives refuse 22) ∷
    (executing (ten_words 4) 0 (untagged_to 0 0) (0x0C000001 ∷ []) gives ok (1 ∷ [])) ∷
    (executing (ten_words 11) 0 (untagged_to 0 0) (0x0C000001 ∷ []) gives refuse 22) ∷
    (reading four_words (tagged_to 3 4) gives ok (18 ∷ [])) ∷
    (reading four_words (tagged_to 3 7) gives ok (21 ∷ [])) ∷
    (reading four_words (tagged_to 3 3) gives refuse 24) ∷
    (reading four_words (tagged_to 3 8) gives refuse 24) ∷
    (writing four_words (tagged_to 3 5) gives refuse 24) ∷
    (writing four_words (tagged_to 2 5) gives ok (7 ∷ [])) ∷
    (reading two_matches (tagged_to 0 5) gives refuse 25) ∷
    (passing read_and_write (tagged_to 2 4) 4 true true gives refuse 24) ∷
    (passing read_and_write (tagged_to 2 4) 4 true false gives ok (1 ∷ [])) ∷
    (passing read_and_write (tagged_to 2 4) 5 true false gives refuse 24) ∷
    (executing (program 1) 0 (untagged_to 0 0) (0x0C000FFF ∷ []) gives ok (4294967295 ∷ [])) ∷
    (executing (program 2) 4294967295 (untagged_to 0 0) (0x03000001 ∷ 1 ∷ []) gives ok (0 ∷ [])) ∷
    (executing (program 1) 0 (untagged_to 0 4095) (0x01000001 ∷ []) gives refuse 23) ∷
    (executing (program 1) 0 (untagged_to 0 0) (0x01000FFF ∷ []) gives refuse 23) ∷
    (executing (program 5) 0 (untagged_to 0 0) (0x0100A003 ∷ 0 ∷ 0 ∷ 4 ∷ 42 ∷ []) gives ok (42 ∷ [])) ∷
    (executing (program 5) 0 (untagged_to 0 0) (0x0100A003 ∷ 0 ∷ 0 ∷ 0x00010000 ∷ []) gives refuse 26) ∷
    (executing (program 5) 0 (untagged_to 0 0) (0x0100A003 ∷ 0 ∷ 0 ∷ 0x80001005 ∷ []) gives refuse 24) ∷
    (executing (ten_beside 1) 0 (untagged_to 1 9) (0x01000000 ∷ replicate 9 0 ++ 77 ∷ []) gives ok (77 ∷ [])) ∷
    (executing four_words 0 (tagged_to 3 4) (0x01000000 ∷ replicate 17 0 ++ 77 ∷ []) gives ok (77 ∷ [])) ∷
    (executing four_words 0 (tagged_to 3 7) (0x01000000 ∷ replicate 20 0 ++ 77 ∷ []) gives ok (77 ∷ [])) ∷
    (executing four_words 0 (tagged_to 3 3) (0x01000000 ∷ []) gives refuse 24) ∷
    (executing four_words 0 (tagged_to 3 8) (0x01000000 ∷ []) gives refuse 24) ∷
    (executing four_words 0 (tagged_to 3 5) (0x02000000 ∷ []) gives refuse 24) ∷
    (executing four_words 0 (tagged_to 3 4) (0x01008000 ∷ []) gives refuse 24) ∷
    (executing two_matches 0 (tagged_to 0 5) (0x01000000 ∷ []) gives refuse 25) ∷
    (executing read_and_write 7 (untagged_to 0 2) (call_with 0xC0000004) gives refuse 24) ∷
    (executing read_and_write 7 (untagged_to 0 2) (call_with 0x40000004) gives ok (7 ∷ [])) ∷
    under_rights (λ r. executing (ten_beside r) 0 (untagged_to 1 10) (0x01000000 ∷ []) gives refuse 21) ++
    under_rights (λ r. reading (ten_words r) (untagged_to 0 10) gives refuse 21) ++
    under_rights (λ r. writing (ten_words r) (untagged_to 0 10) gives refuse 21) ++
    word_rows ++
    effect_rows ++
    gate_rows ++
    handed_on_rows ++
    reach_rows ++
    borders
