-- `snapshot_reader::proper::capabilities_proper` meets its contract.
use Prim.Native.Nat.{ℕ, ◌+◌, ◌*◌}
use mathlib.Core.Bool.{Bool}
use mathlib.Core.Path.{◌∙◌}
use borrow.Author.Rules.{rules}
use borrow.Author.Tests.{le-leb, lt-leb}
use Rattle.layout_soundness.proofs.Tests.{pass, stop, answered-true, answered-false}
use Rattle.snapshot_format.specs.RecordForm.{capability_form}
use Rattle.snapshot_reader.proofs.Laws.{tested}
use Rattle.snapshot_reader.proofs.proper.capabilities_proper.Goals as goal

pub returns-then-used-gt9 : goal.returns-then-used-gt9
returns-then-used-gt9 c = stop _ (lt-leb _ _ c.if-used-gt9.true)

pub returns-then-all : goal.returns-then-all
returns-then-all c =
    let row : ℕ → Bool = λ k. capability_form.proper c.args.bytes.now (c.args.i + 1 + k * 8) in
    pass (le-leb _ _ c.if-used-gt9.false) (pass (answered-true (tested _ _ row _ (λ k y q h. search rules) _ _ c.all.ensures.ran) c.if-all.true) c.all_zero.ensures)

pub returns-else-all : goal.returns-else-all
returns-else-all c =
    let row : ℕ → Bool = λ k. capability_form.proper c.args.bytes.now (c.args.i + 1 + k * 8) in
    c.if-all.false ∙ pass (le-leb _ _ c.if-used-gt9.false) (stop _ (answered-false (tested _ _ row _ (λ k y q h. search rules) _ _ c.all.ensures.ran) c.if-all.false))
