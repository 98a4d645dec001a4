-- `recent::registers::fresh_registers` meets its contract.
use Rattle.std.proofs.Common.{rules}
use Rattle.std.proofs.lemmas.List.FromFn.{fill_by_all}
use Rattle.state.specs.Record.{no_capability, no_register}
use Rattle.recent.specs.Registers.{register}
use Rattle.recent.proofs.registers.fresh_registers.Goals as goal

pub returns : goal.returns
returns c = fill_by_all (register no_capability 0) c.loop-i.registers 16 no_register c.loop-i.invariant.0 (search rules)
