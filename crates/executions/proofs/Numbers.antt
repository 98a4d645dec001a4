-- The number of a fault is one of 21-32, so never 0.
use Rattle.std.specs.Prelude.{if◌then◌else◌}
use Prim.Native.Nat.{ℕ}
use native.Mathlib.Omega.{arith}
use mathlib.Core.Bool.{Bool, true, false, ◌&&◌}
use mathlib.Core.List.{List}
use mathlib.Core.Path.{◌≡◌, refl}
use borrow.Author.Tests.{eqb-false}
use lib.Dec.{eqb, leb}
use lib.ListN.{get_or}
use Rattle.words.specs.Answer.{refuse, ok}
use Rattle.words.specs.declared.pointer.Pointer.{Pointer}
use Rattle.state.specs.declared.record.Register.{Register}
use Rattle.state.specs.declared.record.Machine.{Machine}
use Rattle.state.specs.Record.{no_pointer, in_use}
use Rattle.references.specs.declared.flag.Flag.TheVariants as flag
use Rattle.references.specs.declared.flag.Access.TheVariants as access
use Rattle.references.specs.Check.{check}
use Rattle.memory.specs.Reader.{Reader, read_word, fetch}
use Rattle.instructions.specs.Plan.{Plan, halt, move, store, enter, leave}
use Rattle.crossings.specs.Crossing.{left, same_place, leave_check, enter_of, leave_of}
use Rattle.runs.specs.Step.{Act, stop, proceed, put, cross, resolve, decide, commit, execute}
use Rattle.runs.specs.Run.{run_from, judged}
use Rattle.processor.specs.Calls.{stepped, step_call}
use Rattle.executions.proofs.Faults.{run-faulted}
use Rattle.executions.proofs.Parts.{live, planned, frame_for, leave_number}
use Rattle.executions.proofs.Fails.{Fails, judged-if, fails-accept, refused, fails-bind}
use Rattle.executions.proofs.CheckNumbers.{static-judged, check-fails, read-fails, fetch-fails}
use Rattle.executions.proofs.PlanNumbers.{plan-fails, frame-fails}
use Rattle.executions.specs.Statements.{FaultNumber, RunNumber, ZeroCompletes}

-- a step of any machine
module _ (m : Machine) (words : List ℕ) where
  abbrev reader : Reader
  reader = read_word m words

  enter-fails : (p : Pointer) → Fails (enter_of m reader p)
  unfolding enter_of
  enter-fails p =
      fails-bind (frame_for m reader) _
      (frame-fails reader (read-fails m words) (get_or m.pointers 0 no_pointer) m.registers.domain (in_use m.depth) (live m) (get_or m.pointers 1 no_pointer)) (λ f. tt)

  leave-fails : (q p : Pointer) → Fails (leave_of m q p)
  unfolding leave_of leave_check
  leave-fails q p =
      fails-accept (leave_number m p) (left m q p (live m))
      (judged-if (leb 1 (in_use m.depth) && (same_place p (live m).back && same_place (get_or m.pointers 1 no_pointer) (live m).s)) _ 32
      (static-judged m.layout.lengths m.layout.rights (live m).domain flag.Execute p.segment p.word) (λ _. (omega arith, omega arith)))

  resolve-fails : (rs : List Register) (q : Pointer) (plan : Plan) → Fails (resolve m reader rs q plan)
  resolve-fails rs q halt = tt
  resolve-fails rs q (move a s w ps) = tt
  resolve-fails rs q (store p v) = tt
  resolve-fails rs q (enter p) = fails-bind (enter_of m reader p) (λ n. ok (cross n)) (enter-fails p) (λ n. tt)
  resolve-fails rs q (leave p) = fails-bind (leave_of m q p) (λ n. ok (cross n)) (leave-fails q p) (λ n. tt)

  decide-fails : Fails (decide m (fetch m words) reader)
  unfolding decide
  decide-fails =
      fails-bind (planned m (fetch m words) reader) _
      (plan-fails reader (read-fails m words) m.layout.lengths m.layout.gates m.layout.rights m.layout.stacks m.depth m.registers m.pointers (fetch m words) (fetch-fails m words))
      (resolve-fails _ _)

  commit-fails : (act : Act) → Fails (commit m words act)
  unfolding commit
  commit-fails stop = tt
  commit-fails (proceed a s w ps rs) = tt
  commit-fails (put p v rs) = fails-bind (check m access.Write p) _ (check-fails m access.Write p) (λ i. tt)
  commit-fails (cross n) = tt

pub fault-number : FaultNumber
unfolding execute
fault-number m words n e = refused _ n (fails-bind (decide m (fetch m words) (read_word m words)) (commit m words) (decide-fails m words) (commit-fails m words)) e

pub zero-completes : ZeroCompletes
unfolding step_call
zero-completes m words z n e = by (eqb (judged m words) 0) refl (rw e at z)
  where
    by : (t : Bool) → eqb (judged m words) 0 ≡ t → (stepped m words (if t then refuse n else refuse (judged m words))).number ≡ 0 → ⊥
    by true q z = let f = fault-number m words n e in omega (arith, f.0, z)
    by false q z = eqb-false (judged m words) 0 q z

pub run-number : RunNumber
run-number stretch k n m words f e = fault-number (run_from stretch k n m words).machine (run_from stretch k n m words).words f (run-faulted stretch k n m words f e)
