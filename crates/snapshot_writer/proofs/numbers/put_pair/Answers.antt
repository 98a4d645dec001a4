-- `snapshot_writer::numbers::put_pair` meets its contract.
use Prim.Native.Nat.{◌/◌, ◌%◌}
use native.Mathlib.Omega.{arith}
use mathlib.Core.List.{[], ◌∷◌}
use mathlib.Core.Path.{◌≡◌, ◌∙◌}
use Rattle.snapshot_format.specs.Format.{pair_form}
use Rattle.snapshot_writer.proofs.Laws.{part-put}
use Rattle.snapshot_writer.proofs.numbers.put_pair.Goals as goal

pub returns : goal.returns
returns c =
    let a = c.args in
    let n = a.n in
    let last : n / 256 % 256 ≡ n / 256 = omega (arith, c.ranges.n) in
    let bytes : n % 256 ∷ n / 256 % 256 ∷ [] ≡ pair_form.bytes n = λ j. n % 256 ∷ last j ∷ [] in
    part-put a.output.now (pair_form.bytes n) a.i _ (c.copy_from_slice.ensures.after ∙ c.to_le_bytes.ensures ∙ bytes) (omega arith) (omega (arith, c.requires))
