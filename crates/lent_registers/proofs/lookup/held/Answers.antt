-- `lent_registers::lookup::held` meets its contract.
use mathlib.Core.Path.{sym, ◌∙◌}
use borrow.Author.Rules.{rules}
use Rattle.lent_registers.proofs.Loops.{looks-none, looks-hit, looks_on, looks-all}
use Rattle.lent_registers.proofs.lookup.held.Goals as goal

pub loop-i-init : goal.loop-i-init
loop-i-init c = looks-none _ _ _ 0

pub returns-then-is_held : goal.returns-then-is_held
returns-then-is_held c =
    record { result_value = sym (looks-hit _ _ _ _ c.loop-i-test.true c.loop-i.invariant (sym c.is_held.ensures ∙ c.if-is_held.true)); upper_bound = c.loop-i-test.true }

pub loop-i-preserved : goal.loop-i-preserved
loop-i-preserved c = looks_on _ _ _ _ c.loop-i-test.true c.loop-i.invariant (sym c.is_held.ensures ∙ c.if-is_held.false)

pub returns : goal.returns
returns c = record { result_value = sym (looks-all _ _ _ _ c.loop-i-test.false c.loop-i.invariant); upper_bound = search rules }
