-- `snapshot_writer::put_record` meets its contract.
use native.Mathlib.Omega.{arith}
use mathlib.Core.Path.{◌≡◌}
use lib.ListN.{length}
use borrow.Author.Tests.{lt-ltb, le-ltb}
use Rattle.snapshot_format.specs.RecordForm.{with_record}
use Rattle.snapshot_format.specs.Statements.{FullArrays}
use Rattle.snapshot_writer.proofs.Record.{field-rows, record-put}
use Rattle.snapshot_writer.proofs.put_record.Goals as goal
use Rattle.snapshot_writer.proofs.put_record.Goals.{Start}

arrays : (s : Start) → FullArrays s.args.m
arrays s =
    let g = s.well_formed.0.1.1 in
    let l = g.0.1.1 in
    let f = g.1.1.1.0 in
    let frames : length s.args.m.frames ≡ 8 = f.1.0.1 in
    record {
      lengths = l.0.1.0.1;
      gates = l.1.0.1.0.1;
      gatedomains = l.1.1.1.0.1.0.1;
      stacks = l.1.1.1.1.0.1.0.1;
      rights = l.1.1.1.1.1.0.1.0.1;
      pointers = g.1.1.0.1.0.1;
      frames = frames;
      capabilities = λ i h. field-rows s.args.m.frames f.0 f.1.1 i (omega arith);
      recent = g.1.1.1.1.0.1.0.1;
    }

short : goal.returns-then-output-lt1079
unfolding with_record
short c = simp (lt-ltb _ _ c.if-output-lt1079.true)

long : goal.returns
unfolding with_record
long c =
    simp (le-ltb _ _ c.if-output-lt1079.false)
    (record-put c.args.m (arrays (goal.at.returns c).Start) c.args.output.now c.if-output-lt1079.false c.put_layout.ensures c.put_registers.ensures c.put_pointers.ensures c.put_frames.ensures c.put_recent.ensures)

pub returns-then-output-lt1079 : goal.returns-then-output-lt1079
returns-then-output-lt1079 = short

pub returns : goal.returns
returns = long
