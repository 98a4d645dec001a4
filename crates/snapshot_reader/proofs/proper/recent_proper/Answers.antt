-- `snapshot_reader::proper::recent_proper` meets its contract.
use Prim.Native.Nat.{◌+◌, ◌*◌}
use borrow.Author.Rules.{rules}
use Rattle.snapshot_format.specs.RecordForm.{register_form}
use Rattle.snapshot_reader.proofs.Laws.{tested}
use Rattle.snapshot_reader.proofs.proper.recent_proper.Goals as goal

pub returns : goal.returns
returns c = tested _ _ (λ k. register_form.proper c.args.bytes.now (919 + k * 10)) _ (λ k y q h. search rules) 16 _ c.all.ensures.ran
