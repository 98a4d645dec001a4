-- The parts of a step, of a machine and its reader.
use Prim.Native.Nat.{ℕ}
use lib.ListN.{get_or}
use Rattle.words.specs.Answer.{Answer}
use Rattle.words.specs.declared.pointer.Pointer.{Pointer}
use Rattle.state.specs.declared.record.Frame.{Frame}
use Rattle.state.specs.declared.record.Machine.{Machine}
use Rattle.state.specs.Record.{no_pointer, in_use, live_frame}
use Rattle.memory.specs.Reader.{Reader}
use Rattle.instructions.specs.Plan.{Plan}
use Rattle.instructions.specs.Instruction.{plan_of}
use Rattle.arguments.specs.ArgumentList.{frame_of}
use Rattle.crossings.specs.Crossing.{leave_check}

module _ (m : Machine) where
  abbrev pub live : Frame
  live = live_frame m.depth m.frames

  -- what the fetched word plans
  abbrev pub planned : Answer ℕ → Reader → Answer Plan
  planned fetched read = plan_of m.layout.lengths m.layout.gates m.layout.rights m.layout.stacks m.depth m.registers m.pointers fetched read

  -- the frame of a call
  abbrev pub frame_for : Reader → Answer Frame
  frame_for read = frame_of read (get_or m.pointers 0 no_pointer) (get_or m.pointers 1 no_pointer) m.registers.domain (in_use m.depth) live

  -- the number of a return's checks
  abbrev pub leave_number : Pointer → ℕ
  leave_number p = leave_check m.layout.lengths m.layout.rights (in_use m.depth) live (get_or m.pointers 1 no_pointer) p
