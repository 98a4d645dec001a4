-- `runs::renewal::renew_call` meets its contract.
use Prim.Native.Nat.{ℕ, ◌+◌}
use mathlib.Core.List.{List}
use mathlib.Core.Path.{ap, ◌∙◌}
use Rattle.state.specs.declared.record.Register.{Register}
use Rattle.recent.specs.Registers.{listed}
use Rattle.references.specs.Made.{renewed_all}
use Rattle.lent_registers.specs.Columns.{registers_of}
use Rattle.arguments.specs.ArgumentList.{list_made}
use Rattle.crossings.specs.Crossing.{called_recent}
use Rattle.runs.proofs.renewal.renew_call.Goals as goal

pub returns : goal.returns
unfolding called_recent
returns c = let a = c.args in c.enter_list.ensures ∙ ap (λ (x : List Register). listed (a.view.now.depth + 1) a.made x) (c.renew_list.ensures ∙ ap (λ (n : ℕ). renewed_all (registers_of a.recent.now) a.view.now.depth a.view.now.frame (list_made a.a n 0)) c.list_words.ensures)
