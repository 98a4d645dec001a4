-- `snapshot_reader::proper::frames_proper` meets its contract.
use Prim.Native.Nat.{ℕ, ◌+◌, ◌*◌}
use mathlib.Core.Bool.{Bool}
use mathlib.Core.Path.{◌∙◌}
use borrow.Author.Rules.{rules}
use borrow.Author.Tests.{le-leb, lt-leb}
use Rattle.layout_soundness.proofs.Tests.{pass, stop, answered-true, answered-false}
use Rattle.snapshot_format.specs.RecordForm.{frame_form}
use Rattle.snapshot_reader.proofs.Laws.{tested}
use Rattle.snapshot_reader.proofs.proper.frames_proper.Goals as goal

pub returns-then-used-gt8 : goal.returns-then-used-gt8
returns-then-used-gt8 c = stop _ (lt-leb _ _ c.if-used-gt8.true)

pub returns-then-all : goal.returns-then-all
returns-then-all c =
    let row : ℕ → Bool = λ k. frame_form.proper c.args.bytes.now (263 + k * 82) in
    pass (le-leb _ _ c.if-used-gt8.false) (pass (answered-true (tested _ _ row _ (λ k y q h. search rules) _ _ c.all.ensures.ran) c.if-all.true) c.all_zero.ensures)

pub returns-else-all : goal.returns-else-all
returns-else-all c =
    let row : ℕ → Bool = λ k. frame_form.proper c.args.bytes.now (263 + k * 82) in
    c.if-all.false ∙ pass (le-leb _ _ c.if-used-gt8.false) (stop _ (answered-false (tested _ _ row _ (λ k y q h. search rules) _ _ c.all.ensures.ran) c.if-all.false))
