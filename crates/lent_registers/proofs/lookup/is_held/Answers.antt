use mathlib.Core.Bool.{not}
use Rattle.state.specs.declared.record.Register.{Register}
use Rattle.capabilities.specs.Search.{covers_of}
use borrow.Author.Tests.{eq-eqb, ne_eqb}
use Rattle.lent_registers.specs.Columns.{register_at}
use mathlib.Core.Path.{sym, ap, ◌∙◌}
use Rattle.lent_registers.proofs.lookup.is_held.Goals as goal

pub returns-then-recent-i : goal.returns-then-recent-i
unfolding register_at
returns-then-recent-i c = sym (simp (ne_eqb _ _ c.if-recent-i.true))

pub returns : goal.returns
unfolding register_at
returns c = rw (eq-eqb _ _ c.if-recent-i.false) (c.covers.ensures ∙ ap (λ (r : Register). covers_of c.args.segment c.args.word 1 c.args.read (not c.args.read) r.capability) c.register_at-r.ensures)
