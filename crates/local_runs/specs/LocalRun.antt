-- A local run: instructions inside the executing domain, up to the first that ends a run or crosses.
use Rattle.std.specs.Prelude.{ℕ, zero, suc, ◌+◌, List}
use Rattle.words.specs.Answer.{Answer, refuse, ok}
use Rattle.words.specs.declared.pointer.Pointer.{Pointer}
use Rattle.state.specs.declared.record.Frame.{Frame}
use Rattle.state.specs.declared.record.Register.{Register}
use Rattle.state.specs.declared.record.Registers.{Registers}
use Rattle.instructions.specs.Stages.{Stage, stage_of}
use Rattle.instructions.specs.Stages as stage
use Rattle.instructions.specs.Cycle.{Progress, ended, moved, entering, leaving, cycle_of, cycle_words, cycle_recent}
use Rattle.local_runs.specs.declared.Pause.{Pause}

-- where a local run pauses: before the instruction that the stage tells, after count completed ones; Moved where the limit is reached
pub record Stop : Type 0 where
  pub pointers : List Pointer
  pub registers : Registers
  pub stage : Stage
  pub count : ℕ

-- what the code's pause stands for
abbrev pub stop_of : Pause → Stop
stop_of t = record { pointers = t.pointers; registers = t.registers; stage = stage_of t.event; count = t.count }

-- with the words and the recent capabilities there
pub record Paused : Type 0 where
  pub stop : Stop
  pub words : List ℕ
  pub recent : List Register

abbrev pub paused : Registers → List Pointer → List ℕ → List Register → ℕ → Stage → Paused
paused r pointers words recent n e = record { stop = record { pointers = pointers; registers = r; stage = e; count = n }; words = words; recent = recent }

-- after an instruction: go says how it goes on
abbrev pub after_cycle : (Registers → List Pointer → List ℕ → List Register → Paused) → ℕ → Registers → List Pointer → List ℕ → List Register → Answer Progress → Paused
after_cycle go n r pointers next recent (refuse f) = paused r pointers next recent n (stage.Faulted f)
after_cycle go n r pointers next recent (ok ended) = paused r pointers next recent n stage.Halted
after_cycle go n r pointers next recent (ok (moved s ps)) = go s ps next recent
after_cycle go n r pointers next recent (ok (entering p)) = paused r pointers next recent n (stage.Entering p)
after_cycle go n r pointers next recent (ok (leaving p q)) = paused r pointers next recent n (stage.Leaving p q)

-- at most k instructions more, n completed so far
unfoldable pub local_from : List ℕ → List ℕ → List ℕ → List ℕ → List ℕ → ℕ → Frame → ℕ → ℕ → Registers → List Pointer → List ℕ → List Register → Paused
local_from lengths gates rights stacks bases depth frame zero n r pointers words recent = paused r pointers words recent n stage.Moved
local_from lengths gates rights stacks bases depth frame (suc k) n r pointers words recent =
    after_cycle (local_from lengths gates rights stacks bases depth frame k (n + 1)) n r pointers
    (cycle_words lengths gates rights stacks bases words recent depth frame r pointers)
    (cycle_recent lengths gates rights stacks bases words recent depth frame r pointers)
    (cycle_of lengths gates rights stacks bases words recent depth frame r pointers)
