-- Rows that hold nothing, and parts of a record.
use Rattle.std.specs.Prelude.{ℕ, ◌-◌, false, List, [], leb, ltb, get_or, replicate, if◌then◌else◌}
use Rattle.words.specs.declared.pointer.Pointer.{Pointer}
use Rattle.state.specs.declared.record.Capability.{Capability}
use Rattle.state.specs.declared.record.Frame.{Frame}
use Rattle.state.specs.declared.record.Register.{Register}

-- what lies past the end of an array of pointers, of capabilities, of frames, of registers
abbrev pub no_pointer : Pointer
no_pointer = record { word = 0; segment = 0; tag = false }

abbrev pub no_capability : Capability
no_capability = record { word = 0; length = 0; segment = 0; source = 0; read = false; write = false }

abbrev pub no_frame : Frame
no_frame = record { capabilities = []; s = no_pointer; back = no_pointer; count = 0; domain = 0 }

abbrev pub no_register : Register
no_register = record { capability = no_capability; frame = 0; recency = 0 }

-- the number that an array of sixteen has for a segment: its length, gate count or gate domain; 0 past the rows
abbrev pub of_segment : List ℕ → ℕ → ℕ
of_segment rows segment = if ltb segment 16 then get_or rows segment 0 else 0

-- a frame that is not in use: nine empty rows
abbrev pub free_frame : Frame
free_frame = record { capabilities = replicate 9 no_capability; s = no_pointer; back = no_pointer; count = 0; domain = 0 }

-- how many frames are in use; a depth past eight, which no sound record has, counts as none
abbrev pub in_use : ℕ → ℕ
in_use depth = if leb depth 8 then depth else 0

-- the newest frame in use, the live frame, where there is one
abbrev pub live_frame : ℕ → List Frame → Frame
live_frame depth frames = get_or frames (in_use depth - 1) no_frame
