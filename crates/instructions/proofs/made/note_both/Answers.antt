-- `instructions::made::note_both` meets its contract.
use Rattle.instructions.proofs.Notes.{first-noted, last-noted}
use Rattle.instructions.proofs.made.note_both.Goals as goal

pub returns : goal.returns
returns c = first-noted _ _ _ _ _ _ _ c.note_indirect.ensures (last-noted _ _ _ _ _ c.renew.ensures)
