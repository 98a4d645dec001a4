-- `references::flag::asked` meets its contract.
use Rattle.references.proofs.flag.asked.Goals as goal

pub returns-in-Read : goal.returns-in-Read
returns-in-Read c = simp c.in-Read.is

pub returns-in-Write : goal.returns-in-Write
returns-in-Write c = simp c.in-Write.is
