-- `snapshot_writer::rows::put_frames` meets its contract.
use Prim.Native.Nat.{◌+◌, ◌*◌}
use native.Mathlib.Omega.{arith}
use mathlib.Core.Path.{◌≡◌, refl, ◌∙◌}
use lib.ListN.{length, length-set, get_or}
use lib.Seq.{sets}
use Rattle.state.specs.Record.{no_frame, free_frame}
use Rattle.snapshot_format.specs.Format.{counted}
use Rattle.snapshot_format.specs.RecordForm.{frame_form}
use Rattle.snapshot_writer.proofs.Laws.{Sized, put-none, put-length, put_next, put_all, same-room, counted-put}
use Rattle.snapshot_writer.proofs.Record.{value-rows, frame-size}
use Rattle.snapshot_writer.proofs.rows.put_frames.Goals as goal
use Rattle.snapshot_writer.proofs.rows.put_frames.Goals.{After-put_zeros, After-rows_used-used, At-loop-k, Start}

full : (s : Start) → length s.args.frames ≡ 8
full s = s.well_formed.1.1.0.1.0.1

sized : (s : Start) → Sized frame_form no_frame s.args.frames
sized s k h = let g = s.well_formed.1.1.0 in frame-size (get_or s.args.frames k no_frame) (value-rows s.args.frames g.0 g.1.1 k h)

room : (l : At-loop-k) → length l.loop-k.output ≡ length l.args.output.now
room l = let a = l.args in put-length l.loop-k.invariant ∙ length-set a.output.now 262 a.depth

abbrev start : After-put_zeros → Start
start c = (goal.at.After-put_zeros c).Start

-- the bytes that are written
all : (c : After-put_zeros) → let a = (start c).args in c.put_zeros.new.output ≡ sets a.output.now 262 ((counted 8 free_frame frame_form).bytes (a.depth, a.frames))
all c =
    let s = start c in
    let a = s.args in
    counted-put 8 free_frame frame_form no_frame a.frames (sized s) (full s) a.depth a.output.now c.loop-k.output c.put_zeros.new.output 262 c.rows_used-used.result c.rows_used-used.ensures.value (put_all c.loop-k.invariant c.loop-k-test.false) c.put_zeros.ensures

pub loop-k-init : goal.loop-k-init
loop-k-init c = put-none (omega (arith, full (goal.at.loop-k-init c).Start, c.rows_used-used.ensures.within))

pub put_frame-requires : goal.put_frame-requires
put_frame-requires c = omega (arith, c.rows_used-used.ensures.within, room (goal.at.put_frame-requires c).At-loop-k, c.requires)

pub loop-k-preserved : goal.loop-k-preserved
loop-k-preserved c = put_next c.loop-k.invariant no_frame (263 + c.loop-k.k * 82) (sized (goal.at.loop-k-preserved c).Start) c.loop-k-test.true refl c.put_frame.ensures

pub put_zeros-requires : goal.put_zeros-requires
put_zeros-requires c = omega (arith, c.rows_used-used.ensures.within, room (goal.at.put_zeros-requires c).At-loop-k, c.requires)

pub shape_of-output : goal.shape_of-output
shape_of-output c = let a = (start (goal.at.shape_of-output c).After-put_zeros).args in same-room a.output.now 262 ((counted 8 free_frame frame_form).bytes (a.depth, a.frames)) (all (goal.at.shape_of-output c).After-put_zeros)

pub returns : goal.returns
returns c = all (goal.at.returns c).After-put_zeros
