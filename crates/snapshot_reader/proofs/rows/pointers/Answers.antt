-- `snapshot_reader::rows::pointers` meets its contract.
use borrow.Author.Rules.{rules}
use Rattle.state.specs.Record.{no_pointer}
use Rattle.snapshot_reader.proofs.Laws.{made}
use Rattle.snapshot_reader.proofs.rows.pointers.Goals as goal

pub returns : goal.returns
returns c = made _ _ _ no_pointer _ (λ k y q h. search rules) 8 c.from_fn.ensures.items
