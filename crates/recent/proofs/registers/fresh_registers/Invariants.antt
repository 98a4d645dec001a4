-- `recent::registers::fresh_registers` meets its contract.
use Rattle.std.proofs.Common.{◌≡◌, ℕ, ◌<◌, length, get_or}
use Rattle.state.specs.Record.{no_capability, no_register}
use Rattle.recent.specs.Registers.{register}
use Rattle.recent.proofs.registers.fresh_registers.Given as goal

abbrev pub invariant-loop-i : goal.invariant-loop-i
invariant-loop-i l = (length l.registers ≡ 16) × ((k : ℕ) → k < l.i → get_or l.registers k no_register ≡ register no_capability 0 k)
