-- `recent::registers::register_sound` meets its contract.
use Rattle.std.proofs.Common.{rules, tests, ◌∙◌}
use borrow.Author.Tests.{eq-eqb}
use Rattle.state.specs.Record.{no_capability}
use Rattle.recent.specs.SoundRegisters.{register_test}
use Rattle.recent.proofs.Logic.{in_then}
use Rattle.recent.proofs.Same.{derived-same}
use Rattle.recent.proofs.registers.register_sound.Goals as goal

pub returns-then-r-eq0 : goal.returns-then-r-eq0
unfolding register_test
returns-then-r-eq0 c = in_then _ (eq-eqb _ _ c.if-r-eq0.true) (c.eq.ensures ∙ derived-same c.args.r.capability no_capability)

pub returns-then-r-depth : goal.returns-then-r-depth
unfolding register_test
returns-then-r-depth c = search (rules, tests)

pub returns-else-r-depth : goal.returns-else-r-depth
unfolding register_test
returns-else-r-depth c = search (rules, tests)
