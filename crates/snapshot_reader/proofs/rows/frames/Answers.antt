-- `snapshot_reader::rows::frames` meets its contract.
use borrow.Author.Rules.{rules}
use Rattle.state.specs.Record.{free_frame}
use Rattle.snapshot_reader.proofs.Laws.{made}
use Rattle.snapshot_reader.proofs.rows.frames.Goals as goal

pub returns : goal.returns
returns c = made _ _ _ free_frame _ (λ k y q h. search rules) 8 c.from_fn.ensures.items
