-- What a fresh machine and each instruction do, seen in A.
use Rattle.std.specs.Prelude.{ℕ, ◌+◌, ◌*◌, ◌^◌, List, [], ◌∷◌, ◌++◌}
use Rattle.words.specs.Answer.{refuse, ok}
use Rattle.words.specs.declared.pointer.Pointer.{Pointer}
use Rattle.state.specs.declared.record.Machine.{Machine}
use Rattle.state.specs.Record.{no_pointer}
use Rattle.readings.specs.Scene.{untagged_to, tagged_to, fill, frame_with, lent, in_frames, machine_of, scene_memory}
use Rattle.readings.specs.Change.{stack_to, right_to, start_to, relaid, restarted, holding_a, pointing}
use Rattle.readings.specs.Question.{Question, Row, running, ◌gives◌}

-- domains 0 and 1 may read and execute segment 0, the stack of domain 1; domain 0 may read and write segment 1, its stack
abbrev worker : Machine
worker =
    relaid (stack_to 0 1)
    (machine_of (record { lengths = 8 ∷ 4 ∷ []; gates = []; rights = (5 ∷ 3 ∷ []) ∷ (5 ∷ []) ∷ []; capabilities = [] }))

-- A after so many instructions of a program in segment 0; segment 1 holds 11, 12, 13
abbrev doing : ℕ → Machine → List ℕ → Question
doing limit m program = running limit m (scene_memory (fill 8 0 program ++ 11 ∷ 12 ∷ 13 ∷ []))

-- with register 4 at segment 1
abbrev working : Machine
working = pointing 4 (untagged_to 1 0) worker

-- a jump to word 2, where A becomes 2; at word 1 it becomes 1
abbrev jumping : ℕ → ℕ → Question
jumping a jump = doing 2 (holding_a a worker) (jump ∷ 0x0C000001 ∷ 0x0C000002 ∷ [])

-- a transfer of this opcode to a word that the domain may not execute, and past the end of that segment
abbrev astray : ℕ → ℕ → List Row
astray a opcode =
    (doing 1 (holding_a a working) ((opcode * 2 ^ 24 + 0x4000) ∷ []) gives refuse 22) ∷
    (doing 1 (holding_a a working) ((opcode * 2 ^ 24 + 0x4004) ∷ []) gives refuse 21) ∷ []

-- on segment 1 domain 0 lacks G only, and domain 1 E only
abbrev divided : Machine
divided = relaid (right_to 17 11) (relaid (right_to 1 7) worker)

-- there, with a pointer in register 3, this s, and a frame that records a return location, a pointer as s, and domain 1
abbrev callee : Pointer → Pointer → Pointer → Pointer → Machine
callee p back s recorded =
    pointing 3 p (pointing 2 (untagged_to 1 0) (pointing 1 s (in_frames (frame_with 1 (lent ∷ []) recorded back 1 ∷ []) divided)))

-- RET through that pointer; at word 2 b is used
abbrev returning : Pointer → Pointer → Pointer → Pointer → Question
returning p back s recorded = doing 2 (callee p back s recorded) (0x09003000 ∷ 7 ∷ 0x01002001 ∷ [])

-- RET alone, to the return location and with the recorded s
abbrev returning_to : ℕ → ℕ → Question
returning_to segment word = doing 1 (callee (tagged_to segment word) (untagged_to segment word) no_pointer no_pointer) (0x09003000 ∷ [])

-- a fresh machine, each instruction, and the checks of jumps and returns
abbrev pub effect_rows : List Row
effect_rows =
    (doing 1 (restarted worker) (0x01002001 ∷ []) gives ok (12 ∷ [])) ∷
    (doing 1 (restarted (relaid (start_to 0 2 1) (relaid (right_to 0 0) worker))) (0 ∷ 7 ∷ 0x01002001 ∷ []) gives ok (7 ∷ [])) ∷
    (doing 2 worker (0x00000000 ∷ 0x0C000001 ∷ []) gives ok (0 ∷ [])) ∷
    (doing 1 working (0x01004001 ∷ []) gives ok (12 ∷ [])) ∷
    (doing 4 working (0x0C000005 ∷ 0x02004001 ∷ 0x0C000000 ∷ 0x01004001 ∷ []) gives ok (5 ∷ [])) ∷
    (doing 2 working (0x0C000005 ∷ 0x03004001 ∷ []) gives ok (17 ∷ [])) ∷
    (doing 2 working (0x0C000005 ∷ 0x04004001 ∷ []) gives ok (4294967289 ∷ [])) ∷
    (doing 2 working (0x05054001 ∷ 0x01005001 ∷ []) gives ok (13 ∷ [])) ∷
    (doing 2 (pointing 5 (tagged_to 15 4095) working) (0x06054001 ∷ 0x01004001 ∷ []) gives ok (0x8000FFFF ∷ [])) ∷
    (jumping 5 0x07003002 gives ok (2 ∷ [])) ∷
    (jumping 5 0x09003002 gives ok (2 ∷ [])) ∷
    (jumping 0 0x0A003002 gives ok (2 ∷ [])) ∷
    (jumping 1 0x0A003002 gives ok (1 ∷ [])) ∷
    (jumping 0x80000000 0x0B003002 gives ok (2 ∷ [])) ∷
    (jumping 0x7FFFFFFF 0x0B003002 gives ok (1 ∷ [])) ∷
    (doing 1 (pointing 3 (tagged_to 0 0) worker) (0x07003002 ∷ []) gives refuse 28) ∷
    (doing 1 (pointing 3 (tagged_to 0 0) worker) (0x08003002 ∷ []) gives refuse 28) ∷
    (doing 1 (pointing 3 (tagged_to 0 0) worker) (0x09003002 ∷ []) gives refuse 32) ∷
    (doing 2 worker (0x08003002 ∷ 0 ∷ 0x01002001 ∷ []) gives ok (12 ∷ [])) ∷
    (returning (tagged_to 0 2) (untagged_to 0 2) (untagged_to 1 7) (tagged_to 1 7) gives ok (7 ∷ [])) ∷
    (returning (tagged_to 0 2) (untagged_to 0 2) (untagged_to 1 6) (untagged_to 1 7) gives refuse 32) ∷
    (returning (tagged_to 0 1) (untagged_to 0 2) (untagged_to 1 7) (untagged_to 1 7) gives refuse 32) ∷
    (returning (tagged_to 1 0) (untagged_to 1 0) (untagged_to 1 6) (untagged_to 1 7) gives refuse 32) ∷
    (returning (tagged_to 1 0) (untagged_to 0 2) (untagged_to 1 7) (untagged_to 1 7) gives refuse 32) ∷
    (returning_to 0 7 gives ok (0 ∷ [])) ∷
    (returning_to 1 3 gives refuse 22) ∷
    (returning_to 1 4 gives refuse 21) ∷
    (returning_to 0 8 gives refuse 21) ∷
    astray 0 7 ++
    astray 0 8 ++
    astray 0 9 ++
    astray 0 10 ++
    astray 0x80000000 11
