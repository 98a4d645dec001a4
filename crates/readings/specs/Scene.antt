-- Small machines for the readings: a few segments, domains and frames.
use Rattle.std.specs.Prelude.{ℕ, ◌-◌, Bool, true, false, List, [], ◌∷◌, ◌++◌, length, take, replicate}
use Rattle.words.specs.declared.pointer.Pointer.{Pointer}
use Rattle.state.specs.declared.record.Layout.{Layout}
use Rattle.state.specs.declared.record.Capability.{Capability}
use Rattle.state.specs.declared.record.Frame.{Frame}
use Rattle.state.specs.declared.record.Machine.{Machine}
use Rattle.state.specs.Record.{no_pointer, no_capability, free_frame}
use Rattle.fresh.specs.Fresh.{fresh_of}

-- the segments' lengths and gate counts, for each domain its rights on them, and the capabilities of the live frame; domain 0 executes, and gates lead into the last domain
pub record Scene : Type 0 where
  pub lengths : List ℕ
  pub gates : List ℕ
  pub rights : List (List ℕ)
  pub capabilities : List Capability

-- segment, word
abbrev pub untagged_to : ℕ → ℕ → Pointer
untagged_to segment word = record { word = word; segment = segment; tag = false }

abbrev pub tagged_to : ℕ → ℕ → Pointer
tagged_to segment word = record { word = word; segment = segment; tag = true }

-- segment, first word, number of words, source, flags
abbrev pub grant : ℕ → ℕ → ℕ → ℕ → Bool → Bool → Capability
grant segment word length source read write =
    record { word = word; length = length; segment = segment; source = source; read = read; write = write }

abbrev pub read_on : ℕ → ℕ → ℕ → ℕ → Capability
read_on segment word length source = grant segment word length source true false

abbrev pub write_on : ℕ → ℕ → ℕ → ℕ → Capability
write_on segment word length source = grant segment word length source false true

-- as many as an array holds
abbrev pub fill : {A : Type 0} → ℕ → A → List A → List A
fill n d xs = take n (xs ++ replicate n d)

-- the rights of each domain in a row of 16
abbrev rows : List (List ℕ) → List ℕ
rows [] = []
rows (r ∷ rs) = fill 16 0 r ++ rows rs

-- the layout of a scene: its start is word 0 of segment 0 in domain 0, and all stacks are segment 0
abbrev scene_layout : Scene → Layout
scene_layout s =
    record {
      lengths = fill 16 0 s.lengths;
      gates = fill 16 0 s.gates;
      start = record { word = 0; segment = 0; domain = 0 };
      gatedomains = fill 16 0 (replicate (length s.lengths) (length s.rights - 1));
      stacks = replicate 8 0;
      rights = fill 128 0 (rows s.rights);
      segments = length s.lengths;
      domains = length s.rights;
    }

-- a frame of this count with these capabilities, this s, this return location and this calling domain
abbrev pub frame_with : ℕ → List Capability → Pointer → Pointer → ℕ → Frame
frame_with count cs s back domain = record { capabilities = fill 9 no_capability cs; s = s; back = back; count = count; domain = domain }

-- a frame of all these capabilities
abbrev pub scene_frame : List Capability → Frame
scene_frame cs = frame_with (length cs) cs no_pointer no_pointer 0

-- a capability that is sound in every machine
abbrev pub lent : Capability
lent = read_on 0 0 1 0

-- a frame of that one capability
abbrev pub lending : Frame
lending = scene_frame (lent ∷ [])

-- the machine with these frames in use
abbrev pub in_frames : List Frame → Machine → Machine
in_frames fs m =
    record { layout = m.layout; registers = m.registers; pointers = m.pointers; frames = fill 8 free_frame fs; recent = m.recent; depth = length fs }

-- a frame, if there are any capabilities
abbrev scene_frames : List Capability → List Frame
scene_frames [] = []
scene_frames (c ∷ cs) = scene_frame (c ∷ cs) ∷ []

-- the fresh machine of a scene's layout, in its frame
abbrev pub machine_of : Scene → Machine
machine_of s = in_frames (scene_frames s.capabilities) (fresh_of (scene_layout s))

-- a memory that begins with these words
abbrev pub scene_memory : List ℕ → List ℕ
scene_memory words = words ++ replicate 8192 0
