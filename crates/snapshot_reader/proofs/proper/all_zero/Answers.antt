-- `snapshot_reader::proper::all_zero` meets its contract.
use native.Mathlib.Omega.{arith}
use mathlib.Core.Path.{refl}
use Rattle.layout_soundness.specs.SoundLayout.{all_from}
use Rattle.snapshot_reader.proofs.Laws.{zeros-next}
use Rattle.snapshot_reader.proofs.proper.all_zero.Goals as goal

pub loop-b-init : goal.loop-b-init
unfolding all_from
loop-b-init c = refl

pub loop-b-preserved : goal.loop-b-preserved
loop-b-preserved c =
    let a = c.args in
    rw c.max-highest.ensures (zeros-next a.bytes.now a.from a.n c.loop-b.b-index c.loop-b.highest (omega arith) (omega arith) c.loop-b.invariant)
