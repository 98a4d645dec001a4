-- `snapshot_reader::proper::tags_proper` meets its contract.
use Prim.Native.Nat.{◌+◌, ◌*◌}
use borrow.Author.Rules.{rules}
use Rattle.snapshot_format.specs.RecordForm.{pointer_form}
use Rattle.snapshot_reader.proofs.Laws.{tested}
use Rattle.snapshot_reader.proofs.proper.tags_proper.Goals as goal

pub returns : goal.returns
returns c = tested _ _ (λ k. pointer_form.proper c.args.bytes.now (230 + k * 4)) _ (λ k y q h. search rules) 8 _ c.all.ensures.ran
