-- A crossing as the loop makes it: what it changes, apart from the row that its frame goes into.
use Rattle.std.specs.Prelude.{ℕ, List, set, Result, Ok, Err}
use Rattle.words.specs.Answer.{Answer, refuse, ok, ◌>>=◌}
use Rattle.words.specs.Refusal.{number}
use Rattle.words.specs.declared.refusal.Refusal.{Refusal}
use Rattle.words.specs.declared.pointer.Pointer.{Pointer}
use Rattle.state.specs.declared.record.Frame.{Frame}
use Rattle.state.specs.declared.record.Registers.{Registers}
use Rattle.state.specs.Record.{free_frame, of_segment}
use Rattle.references.specs.Reference.{accept}
use Rattle.pointer_registers.specs.Stack.{with_base, stack_of}
use Rattle.crossings.specs.declared.crossing.Crossed.{Crossed}
use Rattle.crossings.specs.Crossing.{at_place, with_tag}

-- the frame for that row, the pointers and the registers
pub record Changes : Type 0 where
  pub frame : Frame
  pub pointers : List Pointer
  pub registers : Registers

-- what the code's result stands for
abbrev pub crossed_answer : Result Crossed Refusal → Answer Changes
crossed_answer (Ok c) = ok (record { frame = c.frame; pointers = c.pointers; registers = c.registers })
crossed_answer (Err r) = refuse (number r)

-- what a call through the gate at p changes, with its frame
abbrev pub enter_parts : List ℕ → List ℕ → Registers → List Pointer → Pointer → Answer Frame → Answer Changes
enter_parts gatedomains stacks r pointers p made =
    made >>= (λ f. ok (record {
      frame = f;
      pointers = with_base (with_tag pointers) (stack_of stacks (of_segment gatedomains p.segment));
      registers = at_place r p (of_segment gatedomains p.segment);
    }))

-- what a return to p from the frame f changes, by the number of its checks
abbrev pub leave_parts : List ℕ → Registers → List Pointer → Pointer → Frame → ℕ → Answer Changes
leave_parts stacks r pointers p f number =
    accept number (record {
      frame = free_frame;
      pointers = with_base (set pointers 1 f.s) (stack_of stacks f.domain);
      registers = at_place r p f.domain;
    })
