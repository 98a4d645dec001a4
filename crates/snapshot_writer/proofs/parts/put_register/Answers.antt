-- `snapshot_writer::parts::put_register` meets its contract.
use Prim.Native.Nat.{ℕ, ◌+◌}
use native.Mathlib.Omega.{arith}
use mathlib.Core.List.{[], ◌∷◌}
use mathlib.Core.Path.{refl, ap}
use lib.ListN.{set}
use Rattle.snapshot_format.specs.RecordForm.{capability_form}
use Rattle.snapshot_writer.proofs.Laws.{follows}
use Rattle.snapshot_writer.proofs.parts.put_register.Goals as goal

pub returns : goal.returns
returns c =
    let a = c.args in
    let r = a.r in
    let l = set c.put_capability.new.output (a.i + 8) r.frame in
    follows a.output.now a.i (capability_form.bytes r.capability) (r.frame ∷ r.recency ∷ []) (a.i + 8) c.put_capability.ensures refl
    (ap (λ (k : ℕ). set l k r.recency) (omega arith))
