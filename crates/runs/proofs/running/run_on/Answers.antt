-- `runs::running::run_on` meets its contract.
use Prim.Native.Nat.{ℕ, ◌<◌, ◌≤◌}
use native.Mathlib.Omega.{arith}
use mathlib.Core.Path.{◌≡◌, sym, ap, ◌∙◌}
use lib.ListN.{get_or}
use Rattle.state.specs.declared.record.Machine.{Machine}
use Rattle.state.specs.Record.{live_frame, no_frame}
use Rattle.runs.specs.declared.outcome.Outcome.{Outcome}
use Rattle.runs.specs.Run.{ran_answer}
use Rattle.runs.specs.Private.{resume_answer}
use Rattle.runs.proofs.Loops.{starts, countable, ends_so, crossed-so, bounds, goes_on}
use Rattle.lent_registers.specs.Columns.{registers_of}
use Rattle.runs.proofs.running.run_on.Goals as goal
use Rattle.runs.proofs.running.run_on.Goals.{After-live_row, At-loop-r, In-Goes}

pub loop-r-init : goal.loop-r-init
loop-r-init c = (rw c.spread-recent.ensures (starts c.args.stretch _ _ _ c.requires), c.bases.ensures)

pub offset_bounds-frames-live_row : goal.offset_bounds-frames-live_row
offset_bounds-frames-live_row c = omega (arith, c.live_row.ensures.1)

pub bounds-frames-live_row : goal.bounds-frames-live_row
bounds-frames-live_row c = c.live_row.ensures.1

-- the frame that is read is the live one
live : (c : After-live_row) →
    let l = c.loop-r in get_or l.frames c.live_row.result no_frame ≡ live_frame l.view.depth l.frames
live c = ap (λ (k : ℕ). get_or c.loop-r.frames k no_frame) c.live_row.ensures.0

-- the record that the locals hold where a turn of the loop begins
abbrev at : At-loop-r → Machine
at l =
    record {
      layout = l.loop-r.view.layout;
      registers = l.loop-r.registers;
      pointers = l.loop-r.pointers;
      frames = l.loop-r.frames;
      recent = registers_of l.loop-r.recent;
      depth = l.loop-r.view.depth;
    }

pub resume-requires : goal.resume-requires
resume-requires c = record { countable = countable _ _ _ _ (at (goal.at.resume-requires c).At-loop-r) _ _ c.loop-r.invariant.0 _ c.loop-r.invariant.1 _ (live (goal.at.resume-requires c).After-live_row) _ _ _ c.run_local-t.ensures.value c.run_local-t.ensures.words_after c.run_local-t.ensures.recent_after (omega (arith, c.ranges.limit)); depth_bound = c.loop-r.invariant.0.most }

-- a crossing has a row for its frame, and has counted
crossing : (c : In-Goes) → (c.in-Goes.row < 8) × ((c.in-Goes.depth ≤ 8) × ((c.loop-r.n < c.in-Goes.count) × (c.in-Goes.count ≤ c.args.limit)))
crossing c = bounds _ _ _ _ (at (goal.at.In-Goes c).At-loop-r) _ _ c.loop-r.invariant.0 _ c.loop-r.invariant.1 _ (live (goal.at.In-Goes c).After-live_row) _ _ _ c.run_local-t.ensures.value c.run_local-t.ensures.words_after c.run_local-t.ensures.recent_after _ c.resume.ensures _ _ _ _ (ap resume_answer c.in-Goes.is)

pub renew_crossing-requires : goal.renew_crossing-requires
renew_crossing-requires c = c.loop-r.invariant.0.most

pub bounds-frames-row : goal.bounds-frames-row
bounds-frames-row c = (crossing (goal.at.bounds-frames-row c).In-Goes).0

pub returns-in-Ends : goal.returns-in-Ends
returns-in-Ends c =
    ap (λ (o : Outcome). ran_answer o c.run_local-t.new.words) (rw c.gathered-kept.ensures at c.outcome.ensures) ∙
    sym (ends_so _ _ _ _ (at (goal.at.returns-in-Ends c).At-loop-r) _ _ c.loop-r.invariant.0 _ c.loop-r.invariant.1 _ (live (goal.at.returns-in-Ends c).After-live_row) _ _ _ c.run_local-t.ensures.value c.run_local-t.ensures.words_after c.run_local-t.ensures.recent_after _ c.resume.ensures _ _ _ _ (ap resume_answer c.in-Ends.is))

pub returns-then-stretch : goal.returns-then-stretch
returns-then-stretch c =
    ap (λ (o : Outcome). ran_answer o c.run_local-t.new.words) (rw c.gathered-kept-then-stretch.ensures at c.outcome-then-stretch.ensures) ∙
    sym (crossed-so _ _ _ _ (at (goal.at.returns-then-stretch c).At-loop-r) _ _ c.loop-r.invariant.0 _ c.loop-r.invariant.1 _ (live (goal.at.returns-then-stretch c).After-live_row) _ _ _ c.run_local-t.ensures.value c.run_local-t.ensures.words_after c.run_local-t.ensures.recent_after _ c.resume.ensures _ _ _ _ (ap resume_answer c.in-Goes.is) _ c.renew_crossing.ensures c.if-stretch.true)

pub loop-r-smaller : goal.loop-r-smaller
loop-r-smaller c = let x = crossing (goal.at.loop-r-smaller c).In-Goes in omega (arith, x.1.1.0, x.1.1.1)

pub loop-r-preserved : goal.loop-r-preserved
loop-r-preserved c =
    (goes_on _ _ _ _ (at (goal.at.loop-r-preserved c).At-loop-r) _ _ c.loop-r.invariant.0 _ c.loop-r.invariant.1 _ (live (goal.at.loop-r-preserved c).After-live_row) _ _ _ c.run_local-t.ensures.value c.run_local-t.ensures.words_after c.run_local-t.ensures.recent_after _ c.resume.ensures _ _ _ _ (ap resume_answer c.in-Goes.is) _ c.renew_crossing.ensures c.if-stretch.false, c.loop-r.invariant.1)
