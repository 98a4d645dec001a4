-- Crossings: calls through a gate and returns across domains (cross-domain calls and returns).
use Rattle.std.specs.Prelude.{ℕ, ◌+◌, ◌-◌, ◌*◌, Bool, true, ◌&&◌, List, eqb, leb, get_or, set, if◌then◌else◌}
use Rattle.words.specs.Answer.{Answer, ok, ◌>>=◌}
use Rattle.words.specs.Numbers.{bad_return}
use Rattle.words.specs.declared.pointer.Pointer.{Pointer}
use Rattle.state.specs.declared.record.Frame.{Frame}
use Rattle.state.specs.declared.record.Register.{Register}
use Rattle.state.specs.declared.record.Registers.{Registers}
use Rattle.state.specs.declared.record.Machine.{Machine}
use Rattle.state.specs.Record.{no_pointer, in_use, live_frame, free_frame, of_segment}
use Rattle.references.specs.declared.flag.Flag.TheVariants as flag
use Rattle.references.specs.Static.{static_of}
use Rattle.references.specs.Reference.{accept}
use Rattle.memory.specs.Reader.{Reader}
use Rattle.pointer_registers.specs.Stack.{with_base, stack_of}
use Rattle.recent.specs.Registers.{cleared, listed}
use Rattle.references.specs.Made.{made_read, renewed, renewed_all}
use Rattle.arguments.specs.ArgumentList.{list_made, frame_of}

-- a pointer with its tag on
abbrev pub tagged : Pointer → Pointer
tagged p = record { word = p.word; segment = p.segment; tag = true }

-- the pointers with the tag of a on
abbrev pub with_tag : List Pointer → List Pointer
with_tag pointers = set pointers 0 (tagged (get_or pointers 0 no_pointer))

-- the registers at a place, executing a domain
abbrev pub at_place : Registers → Pointer → ℕ → Registers
at_place r p domain = record { a = r.a; word = p.word; segment = p.segment; domain = domain }

-- the registers after a call with a frame: the references to its list at a, then the list capability, for the new frame
unfoldable pub called_recent : List Register → ℕ → Frame → Pointer → Frame → List Register
called_recent recent depth live a f = listed (depth + 1) f (renewed_all recent depth live (list_made a (3 + 2 * (f.count - 1)) 0))

-- the registers after a return by an instruction with its indirect word at q: that reference, then the frame's registers are cleared
unfoldable pub left_recent : List Register → ℕ → Frame → Pointer → List Register
left_recent recent depth live q = cleared depth (renewed recent depth live (made_read q))

-- the machine after a call through the gate at p with a frame
unfoldable pub entered : Machine → Pointer → Frame → Machine
entered m p f =
    let domain = of_segment m.layout.gatedomains p.segment in
    record {
      layout = m.layout;
      registers = at_place m.registers p domain;
      pointers = with_base (with_tag m.pointers) (stack_of m.layout.stacks domain);
      frames = set m.frames m.depth f;
      recent = called_recent m.recent (in_use m.depth) (live_frame m.depth m.frames) (get_or m.pointers 0 no_pointer) f;
      depth = m.depth + 1;
    }

-- the machine after a return to p from the frame f
unfoldable pub left : Machine → Pointer → Pointer → Frame → Machine
left m q p f =
    record {
      layout = m.layout;
      registers = at_place m.registers p f.domain;
      pointers = with_base (set m.pointers 1 f.s) (stack_of m.layout.stacks f.domain);
      frames = set m.frames (m.depth - 1) free_frame;
      recent = left_recent m.recent (in_use m.depth) f q;
      depth = m.depth - 1;
    }

-- two pointers are the same place, tags aside
abbrev pub same_place : Pointer → Pointer → Bool
same_place p q = eqb p.segment q.segment && eqb p.word q.word

-- CALL through a gate: the frame is made of the argument list at a, then the gate domain executes
unfoldable pub enter_of : Machine → Reader → Pointer → Answer Machine
enter_of m read p =
    frame_of read (get_or m.pointers 0 no_pointer) (get_or m.pointers 1 no_pointer) m.registers.domain (in_use m.depth) (live_frame m.depth m.frames) >>=
    (λ f. ok (entered m p f))

-- a return's checks against the frame: 0, or the number of the fault
unfoldable pub leave_check : List ℕ → List ℕ → ℕ → Frame → Pointer → Pointer → ℕ
leave_check lengths rights depth f s p =
    if leb 1 depth && (same_place p f.back && same_place s f.s) then static_of lengths rights f.domain flag.Execute p.segment p.word else bad_return

-- RET tagged, its indirect word at q: a frame with this return location and register s, then static E for the recorded domain
unfoldable pub leave_of : Machine → Pointer → Pointer → Answer Machine
leave_of m q p =
    accept (leave_check m.layout.lengths m.layout.rights (in_use m.depth) (live_frame m.depth m.frames) (get_or m.pointers 1 no_pointer) p)
    (left m q p (live_frame m.depth m.frames))
