-- `snapshot_reader::rows::recent` meets its contract.
use borrow.Author.Rules.{rules}
use Rattle.state.specs.Record.{no_register}
use Rattle.snapshot_reader.proofs.Laws.{made}
use Rattle.snapshot_reader.proofs.rows.recent.Goals as goal

pub returns : goal.returns
returns c = made _ _ _ no_register _ (λ k y q h. search rules) 16 c.from_fn.ensures.items
