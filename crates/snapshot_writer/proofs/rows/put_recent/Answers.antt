-- `snapshot_writer::rows::put_recent` meets its contract.
use Prim.Native.Nat.{◌+◌, ◌*◌}
use native.Mathlib.Omega.{arith}
use mathlib.Core.Path.{◌≡◌, refl}
use lib.ListN.{length}
use Rattle.state.specs.Record.{no_register}
use Rattle.snapshot_writer.proofs.Laws.{put-none, put-length, put_next, put_whole}
use Rattle.snapshot_writer.proofs.rows.put_recent.Goals as goal
use Rattle.snapshot_writer.proofs.rows.put_recent.Goals.{Start}

full : (s : Start) → length s.args.recent.now ≡ 16
full s = s.told-recent

pub loop-k-init : goal.loop-k-init
loop-k-init c = put-none (omega (arith, full (goal.at.loop-k-init c).Start))

pub put_register-requires : goal.put_register-requires
put_register-requires c = omega (arith, put-length c.loop-k.invariant, c.requires)

pub loop-k-preserved : goal.loop-k-preserved
loop-k-preserved c = put_next c.loop-k.invariant no_register (919 + c.loop-k.k * 10) (λ n h. refl) (omega (arith, c.loop-k-test.true)) refl c.put_register.ensures

pub shape_of-output : goal.shape_of-output
shape_of-output c = put-length c.loop-k.invariant

pub returns : goal.returns
returns c = put_whole c.loop-k.invariant (full (goal.at.returns c).Start) c.loop-k-test.false
