-- `instructions::made::note` meets its contract.
use mathlib.Core.Path.{sym}
use Rattle.instructions.proofs.Notes.{untagged-noted}
use Rattle.instructions.proofs.made.note.Goals as goal

pub returns-then-p : goal.returns-then-p
returns-then-p c = c.note_both.ensures

pub returns-else-p : goal.returns-else-p
returns-else-p c = sym (untagged-noted _ _ _ _ _ (c.requires c.if-p.false) c.if-p.false)
