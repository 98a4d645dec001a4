-- `snapshot_writer::rows::put_frame` meets its contract.
use Prim.Native.Nat.{ℕ, ◌+◌}
use native.Mathlib.Omega.{arith}
use mathlib.Core.List.{List, [], ◌∷◌, ◌++◌}
use mathlib.Core.Path.{◌≡◌, refl, sym, ap}
use lib.ListN.{length, set}
use lib.Seq.{sets}
use Rattle.state.specs.Record.{no_capability}
use Rattle.snapshot_format.specs.Format.{counted}
use Rattle.snapshot_format.specs.RecordForm.{pointer_form, capability_form, frame_form}
use Rattle.snapshot_writer.proofs.Laws.{follows, same-room, counted-size}
use Rattle.snapshot_writer.proofs.rows.put_frame.Goals as goal
use Rattle.snapshot_writer.proofs.rows.put_frame.Goals.{After-put_pointer-2, Start}

rows : (s : Start) → length s.args.f.capabilities ≡ 9
rows s = s.well_formed.1.1.0.1.1.0.1.0.1

abbrev start : After-put_pointer-2 → Start
start c = (goal.at.After-put_pointer-2 c).Start

-- the bytes that are written
all : (c : After-put_pointer-2) → let a = (start c).args in set c.put_pointer-2.new.output (a.i + 81) a.f.domain ≡ sets a.output.now a.i (frame_form.bytes a.f)
all c =
    let s = start c in
    let a = s.args in
    let f = a.f in
    let t3 : List ℕ = f.domain ∷ [] in
    let t2 = pointer_form.bytes f.back ++ t3 in
    let t1 = pointer_form.bytes f.s ++ t2 in
    let size = counted-size 9 no_capability capability_form no_capability f.capabilities (λ k h. refl) (rows s) f.count in
    follows a.output.now a.i ((counted 9 no_capability capability_form).bytes (f.count, f.capabilities)) t1 (a.i + 73) c.put_capabilities.ensures (ap (λ (k : ℕ). a.i + k) (sym size))
    (follows c.put_capabilities.new.output (a.i + 73) (pointer_form.bytes f.s) t2 (a.i + 77) c.put_pointer.ensures (omega arith)
    (follows c.put_pointer.new.output (a.i + 77) (pointer_form.bytes f.back) t3 (a.i + 81) c.put_pointer-2.ensures (omega arith) refl))

pub shape_of-output : goal.shape_of-output
shape_of-output c = let a = (start (goal.at.shape_of-output c).After-put_pointer-2).args in same-room a.output.now a.i (frame_form.bytes a.f) (all (goal.at.shape_of-output c).After-put_pointer-2)

pub returns : goal.returns
returns c = all (goal.at.returns c).After-put_pointer-2
