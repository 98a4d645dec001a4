-- `snapshot_reader::rows::capabilities` meets its contract.
use borrow.Author.Rules.{rules}
use Rattle.state.specs.Record.{no_capability}
use Rattle.snapshot_reader.proofs.Laws.{made}
use Rattle.snapshot_reader.proofs.rows.capabilities.Goals as goal

pub returns : goal.returns
returns c = made _ _ _ no_capability _ (λ k y q h. search rules) 9 c.from_fn.ensures.items
