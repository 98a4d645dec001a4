-- `arguments::arguments` meets its contract.
use Prim.Native.Nat.{◌-◌}
use mathlib.Core.Path.{◌≡◌}
use lib.ListN.{replicate}
use Rattle.state.specs.Record.{no_capability}
use Rattle.lent_registers.specs.Columns.{registers_of}
use Rattle.memory.specs.Reader.{read_of}
use Rattle.arguments.specs.ArgumentList.{arguments_from}
use Rattle.arguments.proofs.arguments.Given as goal

abbrev pub invariant-loop-i : goal.invariant-loop-i
invariant-loop-i l = let v = l.fn.view in
    arguments_from (read_of v.layout.lengths v.layout.rights v.bases l.fn.words l.fn.domain (registers_of l.fn.recent) v.depth v.frame) l.fn.a l.fn.domain v.depth v.frame l.fn.n 0 (replicate 9 no_capability) ≡ arguments_from (read_of v.layout.lengths v.layout.rights v.bases l.fn.words l.fn.domain (registers_of l.fn.recent) v.depth v.frame) l.fn.a l.fn.domain v.depth v.frame (l.fn.n - l.i) l.i l.rows
