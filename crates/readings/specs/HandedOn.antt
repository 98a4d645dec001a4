-- Calls with a list that was handed on: who covers it, and whose it is then.
use Rattle.std.specs.Prelude.{ℕ, ◌+◌, true, List, [], ◌∷◌, ◌++◌}
use Rattle.words.specs.Answer.{refuse, ok}
use Rattle.state.specs.declared.record.Capability.{Capability}
use Rattle.state.specs.declared.record.Machine.{Machine}
use Rattle.readings.specs.Scene.{untagged_to, tagged_to, grant, read_on, write_on, scene_frame, in_frames, machine_of, scene_memory}
use Rattle.readings.specs.Change.{pointing}
use Rattle.readings.specs.Question.{Question, Row, reaching, running, ◌gives◌}
use Rattle.readings.specs.Gate.{arguments}

-- domain 0 has its code in segment 0, may call segment 1, a gate into domain 3, and has no right on segment 2, which domain 1 alone may read;
-- a is at a word of segment 2 and tagged
abbrev relay : ℕ → List Capability → Machine
relay word cs =
    pointing 0 (tagged_to 2 word)
    (machine_of (record { lengths = 2 ∷ 1 ∷ 4096 ∷ []; gates = 0 ∷ 1 ∷ []; rights = (5 ∷ 8 ∷ []) ∷ (0 ∷ 0 ∷ 1 ∷ []) ∷ [] ∷ (0 ∷ 4 ∷ []) ∷ []; capabilities = cs }))

-- a CALL through the pointer word behind it; the called domain's LOAD of word k of the list, or with 0x8000 more through it; the words of segment 2 from word 4 on
abbrev relay_words : ℕ → List ℕ → List ℕ
relay_words k list = scene_memory (0x0800B001 ∷ 0x00001000 ∷ (0x01000000 + k) ∷ 0 ∷ 0 ∷ 0 ∷ 0 ∷ list)

-- the call alone, with a list at word 4; and then the LOAD
abbrev handing : List Capability → List ℕ → Question
handing cs list = running 1 (relay 4 cs) (relay_words 0 list)

abbrev loading : List Capability → List ℕ → ℕ → Question
loading cs list k = running 2 (relay 4 cs) (relay_words k list)

-- the call with a list of zeros at another word, all words covered
abbrev handing_at : ℕ → Question
handing_at word = running 1 (relay word (read_on 2 0 4096 1 ∷ [])) (relay_words 0 [])

-- no arguments, this return location, and 9 in word 2
abbrev none : ℕ → List ℕ
none back = 0 ∷ back ∷ 9 ∷ []

-- one argument of this pointer word, to read
abbrev one : ℕ → List ℕ
one p = 1 ∷ 5 ∷ 0 ∷ arguments 1 p 0x40000001

-- eight arguments, each word 0 of segment 0, to read
abbrev eight : List ℕ
eight = 8 ∷ 0 ∷ 0 ∷ arguments 8 0 0x40000001

-- words 0 and 1 of the list by one capability, word 2 by another
abbrev pieces : List Capability
pieces = read_on 2 4 2 1 ∷ read_on 2 6 1 1 ∷ []

abbrev pub handed_on_rows : List Row
handed_on_rows =
    -- one capability covers the three words, or more: the list is then domain 1's, which may read it
    (loading (read_on 2 4 3 1 ∷ []) (none 5) 2 gives ok (9 ∷ [])) ∷
    (loading (read_on 2 0 4096 1 ∷ []) (none 5) 2 gives ok (9 ∷ [])) ∷
    (loading (grant 2 4 3 1 true true ∷ []) (none 5) 1 gives ok (5 ∷ [])) ∷
    (loading (pieces ++ read_on 2 4 3 1 ∷ []) (none 5) 0 gives ok (0 ∷ [])) ∷
    -- the covering one's source may be the caller itself
    (handing (pieces ++ read_on 2 4 3 0 ∷ []) (none 5) gives ok (0 ∷ [])) ∷
    (loading (pieces ++ read_on 2 4 3 0 ∷ []) (none 5) 2 gives refuse 25) ∷
    -- a word less at the end or at the start; only two together; not to be read; another segment; another frame; no frame, where word 0 is not read
    (handing (read_on 2 4 2 1 ∷ []) (none 5) gives refuse 24) ∷
    (handing (read_on 2 4 1 1 ∷ read_on 2 5 3 1 ∷ []) (none 5) gives refuse 24) ∷
    (handing pieces (none 5) gives refuse 24) ∷
    (handing (pieces ++ write_on 2 4 3 1 ∷ []) (none 5) gives refuse 24) ∷
    (handing (pieces ++ read_on 1 4 3 1 ∷ []) (none 5) gives refuse 24) ∷
    (running 1 (in_frames (scene_frame (read_on 2 4 3 1 ∷ []) ∷ scene_frame pieces ∷ []) (relay 4 [])) (relay_words 0 (none 5)) gives refuse 24) ∷
    (handing [] (none 5) gives refuse 24) ∷
    -- after the number of arguments, before the return location
    (handing (read_on 2 4 1 1 ∷ []) (9 ∷ []) gives refuse 30) ∷
    (handing (read_on 2 4 2 1 ∷ []) (none 0x00010000) gives refuse 24) ∷
    (handing (read_on 2 4 3 1 ∷ []) (none 0x00010000) gives refuse 26) ∷
    (handing (read_on 2 4 2 1 ∷ []) (none 0x80000000) gives refuse 24) ∷
    (handing (read_on 2 4 3 1 ∷ []) (none 0x80000000) gives refuse 30) ∷
    -- the first that covers, whatever its source may do; but each word that is read goes by its own first match
    (loading (read_on 2 4 3 1 ∷ read_on 2 4 3 2 ∷ []) (none 5) 2 gives ok (9 ∷ [])) ∷
    (handing (pieces ++ read_on 2 4 3 2 ∷ read_on 2 4 3 1 ∷ []) (none 5) gives ok (0 ∷ [])) ∷
    (loading (pieces ++ read_on 2 4 3 2 ∷ read_on 2 4 3 1 ∷ []) (none 5) 2 gives refuse 25) ∷
    (handing (read_on 2 5 1 2 ∷ read_on 2 4 3 1 ∷ []) (none 5) gives refuse 25) ∷
    (handing (read_on 2 6 1 2 ∷ read_on 2 4 3 1 ∷ []) (none 5) gives ok (0 ∷ [])) ∷
    (handing (read_on 2 4 3 2 ∷ []) (none 5) gives refuse 25) ∷
    (handing (read_on 2 7 1 2 ∷ read_on 2 4 5 1 ∷ []) (one 0x80002004) gives refuse 25) ∷
    (handing (read_on 2 8 1 2 ∷ read_on 2 4 5 1 ∷ []) (one 0x80002004) gives refuse 25) ∷
    -- so it is what a domain may see: by the first match
    (reaching (relay 4 (read_on 2 6 1 2 ∷ read_on 2 4 3 1 ∷ [])) 2 5 gives ok (1 ∷ 0 ∷ [])) ∷
    (reaching (relay 4 (read_on 2 6 1 2 ∷ read_on 2 4 3 1 ∷ [])) 2 6 gives ok (0 ∷ 0 ∷ [])) ∷
    -- an argument of the list, here its word 0: passed on where its pointer is tagged, else the caller's own
    (loading (read_on 2 4 5 1 ∷ []) (one 0x80002004) 0x8003 gives ok (1 ∷ [])) ∷
    (loading (read_on 2 4 5 1 ∷ []) (one 0x00002004) 0x8003 gives refuse 25) ∷
    -- nineteen words with eight arguments
    (loading (read_on 2 4 19 1 ∷ []) eight 18 gives ok (0x40000001 ∷ [])) ∷
    (handing (read_on 2 4 18 1 ∷ read_on 2 22 1 1 ∷ []) eight gives refuse 24) ∷
    -- the last word is 4,095; untagged the caller's own rights count
    (handing_at 4093 gives ok (0 ∷ [])) ∷
    (handing_at 4094 gives refuse 24) ∷
    (running 1 (pointing 0 (untagged_to 2 4) (relay 4 (read_on 2 4 3 1 ∷ []))) (relay_words 0 (none 5)) gives refuse 22) ∷ []
