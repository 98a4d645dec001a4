-- `local_runs::run_local` meets its contract.
use native.Mathlib.Omega.{arith}
use mathlib.Core.Path.{sym, ap, ◌∙◌}
use mathlib.Core.List.{List}
use lib.ListN.{length}
use Rattle.words.specs.Answer.{ok}
use Rattle.words.specs.declared.pointer.Pointer.{Pointer}
use Rattle.instructions.specs.Cycle.{moved, event_answer}
use Rattle.local_runs.specs.LocalRun.{Paused}
use Rattle.local_runs.proofs.LocalRuns.{starts, spent, goes, pauses, stops, cycle-length}
use Rattle.local_runs.proofs.run_local.Goals as goal

pub loop-n-init : goal.loop-n-init
loop-n-init c = starts _ _ _ _ _ _ _ _ _ _ _ _ _

pub overflow_add-n : goal.overflow_add-n
overflow_add-n c = omega (arith, c.loop-n-test.true, c.ranges.limit)

pub loop-n-smaller-in-Moved : goal.loop-n-smaller-in-Moved
loop-n-smaller-in-Moved c = omega (arith, c.loop-n-test.true)

pub loop-n-preserved-in-Moved : goal.loop-n-preserved-in-Moved
loop-n-preserved-in-Moved c =
    goes _ _ _ _ _ _ _ _ _ _ _ _ _ _ _ _ _ _ c.loop-n.invariant c.loop-n-test.true _ _ _ _ (sym c.run_cycle-t.ensures.result_value ∙ ap (event_answer _ _) c.in-Moved.is) c.run_cycle-t.ensures.words_after c.run_cycle-t.ensures.recent_after

pub with_pointer-pointed-requires : goal.with_pointer-pointed-requires
with_pointer-pointed-requires c = tt

pub overflow_add-n-in-Pointed : goal.overflow_add-n-in-Pointed
overflow_add-n-in-Pointed c = omega (arith, c.loop-n-test.true, c.ranges.limit)

pub loop-n-smaller : goal.loop-n-smaller
loop-n-smaller c = omega (arith, c.loop-n-test.true)

pub loop-n-preserved : goal.loop-n-preserved
loop-n-preserved c =
    goes _ _ _ _ _ _ _ _ _ _ _ _ _ _ _ _ _ _ c.loop-n.invariant c.loop-n-test.true _ _ _ _ (sym c.run_cycle-t.ensures.result_value ∙ ap (event_answer _ _) c.in-Pointed.is ∙ ap (λ (ps : List Pointer). ok (moved c.run_cycle-t.result.registers ps)) (sym c.with_pointer-pointed.ensures)) c.run_cycle-t.ensures.words_after c.run_cycle-t.ensures.recent_after

pub shape_of-words-in_default : goal.shape_of-words-in_default
shape_of-words-in_default c =
    ap length c.run_cycle-t.ensures.words_after ∙ cycle-length _ _ _ _ _ _ _ _ _ _ _ ∙ c.loop-n.invariant.same

pub returns-in_default : goal.returns-in_default
returns-in_default c =
    let x = c.run_cycle-t.result.event in
    let s = stops x c.in_default.not-Moved c.in_default.not-Pointed in
    let e = pauses _ _ _ _ _ _ _ _ _ _ _ _ _ _ _ _ _ _ c.loop-n.invariant c.loop-n-test.true _ x c.run_cycle-t.ensures.result_value s in
    record { value = sym (ap (λ (q : Paused). q.stop) e); words_after = c.run_cycle-t.ensures.words_after ∙ sym (ap (λ (q : Paused). q.words) e); recent_after = c.run_cycle-t.ensures.recent_after ∙ sym (ap (λ (q : Paused). q.recent) e) }

pub shape_of-words : goal.shape_of-words
shape_of-words c = c.loop-n.invariant.same

pub returns : goal.returns
returns c = let e = spent _ _ _ _ _ _ _ _ _ _ _ _ _ _ _ _ _ _ c.loop-n.invariant c.loop-n-test.false in record { value = sym (ap (λ (x : Paused). x.stop) e); words_after = sym (ap (λ (x : Paused). x.words) e); recent_after = sym (ap (λ (x : Paused). x.recent) e) }
