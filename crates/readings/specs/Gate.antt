-- Fetches and calls through a gate: the borders of their checks.
use Rattle.std.specs.Prelude.{ℕ, zero, suc, ◌+◌, List, [], ◌∷◌, ◌++◌, replicate}
use Rattle.words.specs.Answer.{refuse, ok}
use Rattle.words.specs.declared.pointer.Pointer.{Pointer}
use Rattle.state.specs.declared.record.Machine.{Machine}
use Rattle.readings.specs.Scene.{untagged_to, tagged_to, fill, lending, in_frames, machine_of, scene_memory}
use Rattle.readings.specs.Change.{length_to, stack_to, right_to, relaid, located_at, pointing}
use Rattle.readings.specs.Question.{Question, Row, running, ◌gives◌}
use Rattle.readings.specs.Word.{each_bit}

-- so many arguments of this pointer word and this mode word
abbrev pub arguments : ℕ → ℕ → ℕ → List ℕ
arguments zero p mode = []
arguments (suc n) p mode = p ∷ mode ∷ arguments n p mode

-- CALL through the pointer word behind it, with a list at word 2 that begins with n and this return location
abbrev listing : ℕ → ℕ → ℕ → List ℕ
listing gate n back = 0x0800B001 ∷ gate ∷ n ∷ back ∷ 0 ∷ []

-- such a CALL with n such arguments
abbrev pub call_on : ℕ → ℕ → ℕ → ℕ → List ℕ
call_on gate n p mode = listing gate n 0 ++ arguments n p mode

-- domain 0 may read and execute 40 words, and call segment 1, whose first of two words is a gate into domain 1, which may execute them
abbrev caller : Machine
caller =
    pointing 0 (untagged_to 0 2)
    (machine_of (record { lengths = 40 ∷ 2 ∷ []; gates = 0 ∷ 1 ∷ []; rights = (5 ∷ 8 ∷ []) ∷ (0 ∷ 4 ∷ []) ∷ []; capabilities = [] }))

-- a call of the gate with n arguments; with one
abbrev call_many : ℕ → List ℕ
call_many n = call_on 0x00001000 n 0 0x40000001

abbrev call_one : ℕ → ℕ → List ℕ
call_one p mode = call_on 0x00001000 1 p mode

-- the call, by a machine
abbrev calling : Machine → List ℕ → Question
calling m words = running 1 m (scene_memory words)

-- a call of the gate with no arguments after this n and this return location
abbrev call_listing : ℕ → ℕ → Question
call_listing n back = calling caller (listing 0x00001000 n back)

-- a call with no arguments, its list at this word of a segment of 4,096 words
abbrev call_at : ℕ → Question
call_at word = calling (relaid (length_to 0 4096) (pointing 0 (untagged_to 0 word) caller)) (listing 0x00001000 0 0)

-- a call with this s of a program that puts this pointer into s and returns, then a LOAD through s; word 6 holds 77
abbrev called_with : Pointer → Pointer → Question
called_with s p =
    running 4 (pointing 1 s (pointing 4 p caller))
    (scene_memory (fill 40 0 (listing 0x00001000 0 5 ++ 0x01001000 ∷ 77 ∷ []) ++ 0x05014000 ∷ 0x09000003 ∷ []))

-- a call with n arguments, then the called domain's LOAD of word k of the list
abbrev list_word_of : ℕ → ℕ → Question
list_word_of n k = running 2 caller (scene_memory (fill 40 0 (call_many n) ++ (0x01000000 + k) ∷ []))

-- a call with word 39 as an argument of this mode word, then an instruction of the called domain through register 4, which points there
abbrev argument_used : ℕ → ℕ → Question
argument_used mode w =
    running 2 (relaid (right_to 0 7) (pointing 4 (tagged_to 0 39) caller)) (scene_memory (fill 40 0 (call_one 39 mode) ++ w ∷ []))

-- two segments of all the words there are, which the domain may execute
abbrev longest : Machine
longest = machine_of (record { lengths = 4096 ∷ 4096 ∷ []; gates = []; rights = (4 ∷ 4 ∷ []) ∷ []; capabilities = [] })

-- the memory of a call, the last words of a fetch, and each check of a call through a gate
abbrev pub gate_rows : List Row
gate_rows =
    (running 0 caller (replicate 8192 0) gives ok (0 ∷ [])) ∷
    (running 0 caller (replicate 8191 0) gives refuse 7) ∷
    (running 0 (located_at 16 0 0 caller) (replicate 8191 0) gives refuse 9) ∷
    (running 1 (located_at 0 4095 0 longest) (scene_memory []) gives ok (0 ∷ [])) ∷
    (running 1 (located_at 0 4096 0 longest) (scene_memory []) gives refuse 21) ∷
    (running 2 (located_at 0 4095 0 longest) (replicate 4095 0 ++ scene_memory (0x0C000001 ∷ [])) gives refuse 21) ∷
    (calling caller (call_many 8) gives ok (0 ∷ [])) ∷
    (calling caller (call_many 9) gives refuse 30) ∷
    (call_listing 256 0 gives refuse 30) ∷
    (call_listing 0x80000000 0 gives refuse 30) ∷
    (call_listing 0 0x80000000 gives refuse 30) ∷
    (call_listing 0 0x80010000 gives refuse 26) ∷
    (call_at 4093 gives ok (0 ∷ [])) ∷
    (call_at 4094 gives refuse 23) ∷
    (called_with (tagged_to 0 6) (untagged_to 0 6) gives refuse 24) ∷
    (called_with (untagged_to 0 6) (tagged_to 0 6) gives ok (77 ∷ [])) ∷
    (calling (in_frames (replicate 7 lending) caller) (call_many 0) gives ok (0 ∷ [])) ∷
    (calling (in_frames (replicate 8 lending) caller) (call_many 0) gives refuse 31) ∷
    (calling caller (call_on 0x00001001 0 0 0) gives refuse 29) ∷
    (calling caller (call_on 0x00001002 0 0 0) gives refuse 21) ∷
    (calling (relaid (right_to 1 3) caller) (call_many 0) gives refuse 22) ∷
    (running 2 (relaid (stack_to 1 1) (relaid (right_to 17 5) caller)) (scene_memory (fill 40 0 (call_many 0) ++ 0x01002001 ∷ 7 ∷ [])) gives ok (7 ∷ [])) ∷
    (list_word_of 0 2 gives ok (0 ∷ [])) ∷
    (list_word_of 0 3 gives refuse 24) ∷
    (list_word_of 8 18 gives ok (0x40000001 ∷ [])) ∷
    (list_word_of 8 19 gives refuse 24) ∷
    (argument_used 0x40000001 0x01004000 gives ok (0 ∷ [])) ∷
    (argument_used 0x40000001 0x02004000 gives refuse 24) ∷
    (argument_used 0x80000001 0x01004000 gives refuse 24) ∷
    (argument_used 0x80000001 0x02004000 gives ok (0 ∷ [])) ∷
    (calling caller (call_one 0 0x40000000) gives refuse 30) ∷
    (calling caller (call_one 0 0x40001000) gives ok (0 ∷ [])) ∷
    (calling caller (call_one 0 0x40001001) gives refuse 30) ∷
    (calling caller (call_one 0x00000001 0x40001000) gives refuse 30) ∷
    (calling caller (call_one 0x00000FFF 0x80000001) gives ok (0 ∷ [])) ∷
    (calling caller (call_one 0x00000FFF 0x80000002) gives refuse 30) ∷
    (calling caller (call_one 0 0x00000001) gives refuse 30) ∷
    each_bit 13 17 (λ b. calling caller (call_one 0 (0x40000001 + b)) gives refuse 30)
