-- Machines with one thing changed.
use Rattle.std.specs.Prelude.{ℕ, List, set}
use Rattle.words.specs.declared.pointer.Pointer.{Pointer}
use Rattle.state.specs.declared.record.Start.{Start}
use Rattle.state.specs.declared.record.Layout.{Layout}
use Rattle.state.specs.declared.record.Frame.{Frame}
use Rattle.state.specs.declared.record.Register.{Register}
use Rattle.state.specs.declared.record.Registers.{Registers}
use Rattle.state.specs.declared.record.Machine.{Machine}
use Rattle.fresh.specs.Fresh.{fresh_of}
use Rattle.readings.specs.Scene.{Scene, machine_of}

-- a layout with these arrays in place of its own
abbrev arrayed : List ℕ → List ℕ → List ℕ → List ℕ → List ℕ → Start → Layout → Layout
arrayed lengths gates gatedomains stacks rights start l =
    record {
      lengths = lengths;
      gates = gates;
      start = start;
      gatedomains = gatedomains;
      stacks = stacks;
      rights = rights;
      segments = l.segments;
      domains = l.domains;
    }

-- row i of an array of the layout becomes n
abbrev pub length_to : ℕ → ℕ → Layout → Layout
length_to i n l = arrayed (set l.lengths i n) l.gates l.gatedomains l.stacks l.rights l.start l

abbrev pub gates_to : ℕ → ℕ → Layout → Layout
gates_to i n l = arrayed l.lengths (set l.gates i n) l.gatedomains l.stacks l.rights l.start l

abbrev pub gatedomain_to : ℕ → ℕ → Layout → Layout
gatedomain_to i n l = arrayed l.lengths l.gates (set l.gatedomains i n) l.stacks l.rights l.start l

abbrev pub stack_to : ℕ → ℕ → Layout → Layout
stack_to i n l = arrayed l.lengths l.gates l.gatedomains (set l.stacks i n) l.rights l.start l

abbrev pub right_to : ℕ → ℕ → Layout → Layout
right_to i n l = arrayed l.lengths l.gates l.gatedomains l.stacks (set l.rights i n) l.start l

-- the start: segment, word, domain
abbrev pub start_to : ℕ → ℕ → ℕ → Layout → Layout
start_to segment word domain l =
    arrayed l.lengths l.gates l.gatedomains l.stacks l.rights (record { word = word; segment = segment; domain = domain }) l

-- the layout changed; the registers stay
abbrev pub relaid : (Layout → Layout) → Machine → Machine
relaid change m = record { layout = change m.layout; registers = m.registers; pointers = m.pointers; frames = m.frames; recent = m.recent; depth = m.depth }

-- a fresh machine of the same layout
abbrev pub restarted : Machine → Machine
restarted m = fresh_of m.layout

-- other registers
abbrev registers_to : Registers → Machine → Machine
registers_to r m = record { layout = m.layout; registers = r; pointers = m.pointers; frames = m.frames; recent = m.recent; depth = m.depth }

abbrev pub holding_a : ℕ → Machine → Machine
holding_a a m = let r = m.registers in registers_to (record { a = a; word = r.word; segment = r.segment; domain = r.domain }) m

-- the location, and the executing domain
abbrev pub located_at : ℕ → ℕ → ℕ → Machine → Machine
located_at segment word domain m = registers_to (record { a = m.registers.a; word = word; segment = segment; domain = domain }) m

-- pointer register i becomes p
abbrev pub pointing : ℕ → Pointer → Machine → Machine
pointing i p m = record { layout = m.layout; registers = m.registers; pointers = set m.pointers i p; frames = m.frames; recent = m.recent; depth = m.depth }

-- frame i becomes f, and as many frames stay in use
abbrev pub frame_to : ℕ → Frame → Machine → Machine
frame_to i f m = record { layout = m.layout; registers = m.registers; pointers = m.pointers; frames = set m.frames i f; recent = m.recent; depth = m.depth }

-- another register of recent capabilities
abbrev pub recent_to : ℕ → Register → Machine → Machine
recent_to i r m = record { layout = m.layout; registers = m.registers; pointers = m.pointers; frames = m.frames; recent = set m.recent i r; depth = m.depth }

-- the machine of a scene with this A and this pointer in register 0; its instruction is at word 0 of segment 0
abbrev pub start_of : Scene → ℕ → Pointer → Machine
start_of s a p = holding_a a (pointing 0 p (machine_of s))
