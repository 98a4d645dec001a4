-- `local_runs::run_local` meets its contract.
use Prim.Native.Nat.{ℕ, ◌-◌}
use Rattle.state.specs.declared.record.Registers.{Registers}
use Rattle.lent_registers.specs.Columns.{registers_of}
use Rattle.local_runs.proofs.LocalRuns.{Local}
use Rattle.local_runs.proofs.run_local.Given as goal

-- the registers, which lie apart
abbrev held : ℕ → ℕ → ℕ → ℕ → Registers
held a word segment domain = record { a = a; word = word; segment = segment; domain = domain }

abbrev pub invariant-loop-n : goal.invariant-loop-n
invariant-loop-n l = Local l.view.layout.lengths l.view.layout.gates l.view.layout.rights l.view.layout.stacks l.view.bases l.view.depth l.view.frame l.limit l.from (held l.initial.a l.initial.word l.initial.segment l.initial.domain) l.initial.pointers l.initial.words (registers_of l.initial.recent) l.n (held l.a l.word l.segment l.domain) l.pointers l.words (registers_of l.recent)

abbrev pub decreases-loop-n : goal.decreases-loop-n
decreases-loop-n l = l.limit - l.n
