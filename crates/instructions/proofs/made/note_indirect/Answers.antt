-- `instructions::made::note_indirect` meets its contract.
use mathlib.Core.Path.{sym}
use Rattle.instructions.proofs.Notes.{untagged-renewed}
use Rattle.instructions.proofs.made.note_indirect.Goals as goal

pub returns-then-q : goal.returns-then-q
returns-then-q c = c.renew.ensures

pub returns-else-q : goal.returns-else-q
returns-else-q c = sym (untagged-renewed _ _ _ _ c.if-q.false)
