-- `snapshot_writer::numbers::put_pairs` meets its contract.
use Prim.Native.Nat.{◌+◌, ◌*◌}
use native.Mathlib.Omega.{arith}
use mathlib.Core.Path.{refl}
use Rattle.snapshot_writer.proofs.Laws.{put-none, put-length, put_next, put_whole}
use Rattle.snapshot_writer.proofs.numbers.put_pairs.Goals as goal

pub loop-k-init : goal.loop-k-init
loop-k-init c = put-none (omega arith)

pub put_pair-requires : goal.put_pair-requires
put_pair-requires c = omega (arith, put-length c.loop-k.invariant, c.requires)

pub loop-k-preserved : goal.loop-k-preserved
loop-k-preserved c = put_next c.loop-k.invariant 0 (c.args.from + c.loop-k.k * 2) (λ n h. refl) c.loop-k-test.true refl c.put_pair.ensures

pub shape_of-output : goal.shape_of-output
shape_of-output c = put-length c.loop-k.invariant

pub returns : goal.returns
returns c = put_whole c.loop-k.invariant refl c.loop-k-test.false
