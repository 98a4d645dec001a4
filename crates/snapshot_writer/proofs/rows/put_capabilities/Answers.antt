-- `snapshot_writer::rows::put_capabilities` meets its contract.
use Prim.Native.Nat.{◌+◌, ◌*◌}
use native.Mathlib.Omega.{arith}
use mathlib.Core.Path.{◌≡◌, refl, ◌∙◌}
use lib.ListN.{length, length-set}
use lib.Seq.{sets}
use Rattle.state.specs.Record.{no_capability}
use Rattle.snapshot_format.specs.Format.{counted}
use Rattle.snapshot_format.specs.RecordForm.{capability_form}
use Rattle.snapshot_writer.proofs.Laws.{put-none, put-length, put_next, put_all, same-room, counted-put}
use Rattle.snapshot_writer.proofs.rows.put_capabilities.Goals as goal
use Rattle.snapshot_writer.proofs.rows.put_capabilities.Goals.{After-put_zeros, After-rows_used-used, At-loop-k, Start}

full : (s : Start) → length s.args.capabilities.now ≡ 9
full s = s.told-capabilities

room : (l : At-loop-k) → length l.loop-k.output ≡ length l.args.output.now
room l = let a = l.args in put-length l.loop-k.invariant ∙ length-set a.output.now a.i a.count

abbrev start : After-put_zeros → Start
start c = (goal.at.After-put_zeros c).Start

-- the bytes that are written
all : (c : After-put_zeros) → let a = (start c).args in c.put_zeros.new.output ≡ sets a.output.now a.i ((counted 9 no_capability capability_form).bytes (a.count, a.capabilities.now))
all c =
    let s = start c in
    let a = s.args in
    counted-put 9 no_capability capability_form no_capability a.capabilities.now (λ n h. refl) (full s) a.count a.output.now c.loop-k.output c.put_zeros.new.output a.i c.rows_used-used.result c.rows_used-used.ensures.value (put_all c.loop-k.invariant c.loop-k-test.false) c.put_zeros.ensures

pub loop-k-init : goal.loop-k-init
loop-k-init c = put-none (omega (arith, full (goal.at.loop-k-init c).Start, c.rows_used-used.ensures.within))

pub put_capability-requires : goal.put_capability-requires
put_capability-requires c = omega (arith, c.rows_used-used.ensures.within, room (goal.at.put_capability-requires c).At-loop-k, c.requires)

pub loop-k-preserved : goal.loop-k-preserved
loop-k-preserved c = put_next c.loop-k.invariant no_capability (c.args.i + 1 + c.loop-k.k * 8) (λ n h. refl) c.loop-k-test.true refl c.put_capability.ensures

pub put_zeros-requires : goal.put_zeros-requires
put_zeros-requires c = omega (arith, c.rows_used-used.ensures.within, room (goal.at.put_zeros-requires c).At-loop-k, c.requires)

pub shape_of-output : goal.shape_of-output
shape_of-output c = let a = (start (goal.at.shape_of-output c).After-put_zeros).args in same-room a.output.now a.i ((counted 9 no_capability capability_form).bytes (a.count, a.capabilities.now)) (all (goal.at.shape_of-output c).After-put_zeros)

pub returns : goal.returns
returns c = all (goal.at.returns c).After-put_zeros
