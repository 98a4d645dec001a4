-- Where an instruction came to, with a fault by its number.
use Rattle.std.specs.Prelude.{ℕ}
use Rattle.words.specs.Refusal.{number}
use Rattle.words.specs.declared.pointer.Pointer.{Pointer}
use Rattle.instructions.specs.declared.cycle.Event.{Event}
use Rattle.instructions.specs.declared.cycle.Event.TheVariants as event

pub data Stage : Type 0 where
  Moved : Stage
  Pointed : ℕ → Pointer → Stage
  Halted : Stage
  Entering : Pointer → Stage
  Leaving : Pointer → Pointer → Stage
  Faulted : ℕ → Stage

-- what the code's event stands for
abbrev pub stage_of : Event → Stage
stage_of event.Moved = Moved
stage_of (event.Pointed i p) = Pointed i p
stage_of event.Halted = Halted
stage_of (event.Entering p) = Entering p
stage_of (event.Leaving p q) = Leaving p q
stage_of (event.Faulted refusal) = Faulted (number refusal)
