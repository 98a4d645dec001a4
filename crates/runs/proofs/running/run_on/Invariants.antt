-- `runs::running::run_on` meets its contract. The invariant: the run that the definition gives has come to the record that the locals hold, and its words; the bases are those of the layout.
use Prim.Native.Nat.{◌-◌}
use mathlib.Core.Path.{◌≡◌}
use Rattle.state.specs.Bases.{bases_of}
use Rattle.runs.proofs.Loops.{Runs}
use Rattle.lent_registers.specs.Columns.{registers_of}
use Rattle.runs.proofs.running.run_on.Given as goal

abbrev pub invariant-loop-r : goal.invariant-loop-r
invariant-loop-r l = Runs l.stretch l.limit l.fn.m l.fn.words
    (record { layout = l.view.layout; registers = l.registers; pointers = l.pointers; frames = l.frames; recent = registers_of l.recent; depth = l.view.depth })
    l.words
    l.n
    × (l.view.bases ≡ bases_of l.view.layout.lengths)

abbrev pub decreases-loop-r : goal.decreases-loop-r
decreases-loop-r l = l.limit - l.n
