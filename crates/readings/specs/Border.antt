-- The borders of every range of a sound record: the last number inside, and the first outside.
use Rattle.std.specs.Prelude.{ℕ, ◌+◌, ◌-◌, true, false, List, [], ◌∷◌, ◌++◌, map, replicate}
use Rattle.words.specs.Answer.{refuse, ok}
use Rattle.words.specs.declared.pointer.Pointer.{Pointer}
use Rattle.state.specs.declared.record.Layout.{Layout}
use Rattle.state.specs.declared.record.Capability.{Capability}
use Rattle.state.specs.declared.record.Frame.{Frame}
use Rattle.state.specs.declared.record.Machine.{Machine}
use Rattle.state.specs.Record.{no_pointer, no_capability, free_frame}
use Rattle.recent.specs.Registers.{register}
use Rattle.readings.specs.Scene.{untagged_to, tagged_to, grant, read_on, write_on, frame_with, scene_frame, lent, lending, in_frames, machine_of, scene_memory}
use Rattle.readings.specs.Change.{length_to, gates_to, gatedomain_to, stack_to, right_to, start_to, relaid, located_at, pointing, frame_to, recent_to}
use Rattle.readings.specs.Question.{Row, running, ◌gives◌}

-- a run of no instructions goes through, or is refused with 9
abbrev sound : Machine → Row
sound m = running 0 m (scene_memory []) gives ok (0 ∷ [])

abbrev unsound : Machine → Row
unsound m = running 0 m (scene_memory []) gives refuse 9

-- a number of a record may be at most high; and it may be from low on
abbrev up_to : ℕ → (ℕ → Machine) → List Row
up_to high m = sound (m high) ∷ unsound (m (high + 1)) ∷ []

abbrev within : ℕ → ℕ → (ℕ → Machine) → List Row
within low high m = unsound (m (low - 1)) ∷ sound (m low) ∷ up_to high m

-- so many segments of so many words, and so many domains, which may execute all of them
abbrev of_size : ℕ → ℕ → ℕ → Machine
of_size segments words domains =
    machine_of (record { lengths = replicate segments words; gates = []; rights = replicate domains (replicate segments 4); capabilities = [] })

-- two segments and two domains; all sixteen and all eight
abbrev small : Machine
small = of_size 2 5 2

abbrev full : Machine
full = of_size 16 1 8

-- an array of the layout: the rows in use of the small machine, the last row of the full one, whose highest numbers are given, and the first and last unused row
abbrev array_borders : (ℕ → ℕ → Layout → Layout) → ℕ → ℕ → ℕ → List Row
array_borders to last few many =
    up_to few (λ n. relaid (to 0 n) small) ++
    up_to few (λ n. relaid (to 1 n) small) ++
    up_to many (λ n. relaid (to last n) full) ++
    up_to 0 (λ n. relaid (to 2 n) small) ++
    up_to 0 (λ n. relaid (to last n) small)

-- the ranges of a layout: how many there are of each, its arrays, the rights, the start
abbrev layout_borders : List Row
layout_borders =
    within 1 16 (λ n. of_size n 1 1) ++
    within 1 8 (λ n. of_size 1 1 n) ++
    within 1 4096 (λ n. of_size 1 n 1) ++
    within 1 512 (λ n. relaid (length_to 0 n) (of_size 16 512 1)) ++
    within 1 512 (λ n. relaid (length_to 15 n) (of_size 16 512 1)) ++
    array_borders length_to 15 4096 4096 ++
    array_borders gates_to 15 5 1 ++
    array_borders gatedomain_to 15 1 7 ++
    array_borders stack_to 7 1 15 ++
    array_borders right_to 127 15 15 ++
    up_to 15 (λ n. relaid (right_to 17 n) small) ++
    up_to 0 (λ n. relaid (right_to 18 n) small) ++
    up_to 0 (λ n. relaid (right_to 32 n) small) ++
    up_to 1 (λ n. relaid (start_to n 0 0) small) ++
    up_to 4095 (λ n. relaid (start_to 0 n 0) small) ++
    up_to 1 (λ n. relaid (start_to 0 0 n) small)

-- gates of the small machine's segment 1, into domain 1, whose rights there are given
abbrev gates_under : ℕ → ℕ → Machine
gates_under gates rights = relaid (right_to 17 rights) (relaid (gates_to 1 gates) small)

-- gates are dead without E, whatever else their domain has there, and whatever other domains have; with gate count 0 any rights are sound
abbrev gate_borders : List Row
gate_borders =
    map (λ n. unsound (gates_under 1 n)) (0 ∷ 1 ∷ 2 ∷ 3 ∷ 8 ∷ 9 ∷ 10 ∷ 11 ∷ []) ++
    map (λ n. sound (gates_under 1 n)) (4 ∷ 5 ∷ 6 ∷ 7 ∷ 12 ∷ 13 ∷ 14 ∷ 15 ∷ []) ++
    unsound (gates_under 5 11) ∷ sound (gates_under 5 4) ∷ sound (gates_under 0 11) ∷ sound (gates_under 0 0) ∷
    unsound (relaid (right_to 0 11) (relaid (gatedomain_to 0 0) (relaid (gates_to 0 1) full))) ∷
    sound (relaid (right_to 0 4) (relaid (gatedomain_to 0 0) (relaid (gates_to 0 1) full))) ∷
    unsound (relaid (right_to 112 11) (relaid (gates_to 0 1) full)) ∷
    unsound (relaid (right_to 127 11) (relaid (gates_to 15 1) full)) ∷
    sound (relaid (right_to 127 11) (relaid (gates_to 14 1) full)) ∷
    sound (relaid (right_to 111 11) (relaid (gates_to 15 1) full)) ∷
    sound (relaid (right_to 127 11) (relaid (gatedomain_to 15 6) (relaid (gates_to 15 1) full))) ∷
    unsound (relaid (right_to 111 11) (relaid (gatedomain_to 15 6) (relaid (gates_to 15 1) full))) ∷ []

-- a pointer of a register or of a frame in use
abbrev pointer_borders : (Pointer → Machine) → List Row
pointer_borders m = up_to 15 (λ n. m (untagged_to n 0)) ++ up_to 4095 (λ n. m (untagged_to 0 n))

-- the ranges of the registers: the location, the executing domain, the first and the last pointer
abbrev register_borders : List Row
register_borders =
    up_to 15 (λ n. located_at n 0 0 small) ++
    up_to 4096 (λ n. located_at 0 n 0 small) ++
    up_to 1 (λ n. located_at 0 0 n small) ++
    pointer_borders (λ p. pointing 0 p small) ++
    pointer_borders (λ p. pointing 7 p small) ++
    sound (pointing 7 (tagged_to 15 4095) small) ∷ []

-- a capability in use, where there are two domains
abbrev capability_borders : (Capability → Machine) → List Row
capability_borders m =
    up_to 15 (λ n. m (read_on n 0 1 0)) ++
    within 1 4096 (λ n. m (read_on 0 0 n 0)) ++
    up_to 4095 (λ n. m (read_on 0 n 1 0)) ++
    up_to 4095 (λ n. m (read_on 0 1 n 0)) ++
    up_to 1 (λ n. m (read_on 0 0 1 n)) ++
    sound (m (write_on 0 0 1 0)) ∷
    sound (m (grant 0 0 1 0 true true)) ∷
    unsound (m (grant 0 0 1 0 false false)) ∷ []

-- rows that must be zero: each of their numbers and flags alone
abbrev zero_capability : (Capability → Machine) → List Row
zero_capability m =
    unsound (m (grant 1 0 0 0 false false)) ∷
    unsound (m (grant 0 1 0 0 false false)) ∷
    unsound (m (grant 0 0 1 0 false false)) ∷
    unsound (m (grant 0 0 0 1 false false)) ∷
    unsound (m (grant 0 0 0 0 true false)) ∷
    unsound (m (grant 0 0 0 0 false true)) ∷ []

abbrev zero_pointer : (Pointer → Machine) → List Row
zero_pointer m = unsound (m (untagged_to 1 0)) ∷ unsound (m (untagged_to 0 1)) ∷ unsound (m (tagged_to 0 0)) ∷ []

-- the small machine with one frame in use, and with a free frame i beside it
abbrev in_frame : Frame → Machine
in_frame f = in_frames (f ∷ []) small

abbrev with_free : ℕ → Frame → Machine
with_free i f = frame_to i f (in_frame lending)

-- a frame that must be zero
abbrev zero_frame : (Frame → Machine) → List Row
zero_frame m =
    sound (m free_frame) ∷
    unsound (m (frame_with 1 [] no_pointer no_pointer 0)) ∷
    unsound (m (frame_with 0 [] no_pointer no_pointer 1)) ∷
    zero_pointer (λ p. m (frame_with 0 [] p no_pointer 0)) ++
    zero_pointer (λ p. m (frame_with 0 [] no_pointer p 0)) ++
    zero_capability (λ c. m (frame_with 0 (c ∷ []) no_pointer no_pointer 0)) ++
    zero_capability (λ c. m (frame_with 0 (replicate 8 no_capability ++ c ∷ []) no_pointer no_pointer 0))

-- the ranges of the frames: how many are in use, what one of them holds, and zeros in the others
abbrev frame_borders : List Row
frame_borders =
    up_to 8 (λ n. in_frames (replicate n lending) small) ++
    within 1 9 (λ n. in_frame (scene_frame (replicate n lent))) ++
    up_to 1 (λ n. in_frame (frame_with 1 (lent ∷ []) no_pointer no_pointer n)) ++
    up_to 1 (λ n. in_frames (replicate 7 lending ++ frame_with 1 (lent ∷ []) no_pointer no_pointer n ∷ []) small) ++
    pointer_borders (λ p. in_frame (frame_with 1 (lent ∷ []) p no_pointer 0)) ++
    pointer_borders (λ p. in_frame (frame_with 1 (lent ∷ []) no_pointer p 0)) ++
    sound (in_frame (frame_with 1 (lent ∷ []) (tagged_to 0 0) no_pointer 0)) ∷
    unsound (in_frame (frame_with 1 (lent ∷ []) no_pointer (tagged_to 0 0) 0)) ∷
    capability_borders (λ c. in_frame (scene_frame (c ∷ []))) ++
    capability_borders (λ c. in_frame (scene_frame (replicate 8 lent ++ c ∷ []))) ++
    zero_capability (λ c. in_frame (frame_with 1 (lent ∷ c ∷ []) no_pointer no_pointer 0)) ++
    zero_capability (λ c. in_frame (frame_with 8 (replicate 8 lent ++ c ∷ []) no_pointer no_pointer 0)) ++
    sound (in_frame (frame_with 8 (replicate 8 lent ++ no_capability ∷ []) no_pointer no_pointer 0)) ∷
    zero_frame (with_free 1) ++
    zero_frame (with_free 7)

-- two capabilities of two sources that share a word: the later may not be entered
abbrev sharing : Machine
sharing = in_frame (scene_frame (lent ∷ read_on 0 0 2 1 ∷ []))

-- the ranges of the registers of recent capabilities: their numbers, the frames in use, what may be entered, and zeros in empty ones
abbrev recent_borders : List Row
recent_borders =
    up_to 15 (λ n. recent_to 15 (register no_capability 0 n) (in_frame lending)) ++
    unsound (recent_to 15 (register no_capability 0 14) (in_frame lending)) ∷
    unsound (recent_to 15 (register no_capability 0 0) (in_frame lending)) ∷
    up_to 1 (λ n. recent_to 0 (register lent n 0) (in_frame lending)) ++
    up_to 8 (λ n. recent_to 15 (register lent n 15) (in_frames (replicate 8 lending) small)) ++
    unsound (recent_to 0 (register (read_on 0 0 2 0) 1 0) (in_frame lending)) ∷
    sound (recent_to 0 (register lent 1 0) sharing) ∷
    unsound (recent_to 0 (register (read_on 0 0 2 1) 1 0) sharing) ∷
    zero_capability (λ c. recent_to 0 (register c 0 0) (in_frame lending))

-- every range
abbrev pub borders : List Row
borders = layout_borders ++ gate_borders ++ register_borders ++ frame_borders ++ recent_borders
