-- What a call through a gate and a return across domains give, the crossing of any instruction gives.
use Prim.Native.Nat.{ℕ}
use mathlib.Core.List.{List}
use mathlib.Core.Path.{◌≡◌}
use Rattle.words.specs.Answer.{Answer, ok, ◌>>=◌}
use Rattle.words.specs.InstructionWord.{instruction_of}
use Rattle.words.specs.declared.pointer.Pointer.{Pointer}
use Rattle.state.specs.declared.record.Register.{Register}
use Rattle.state.specs.declared.record.Machine.{Machine}
use Rattle.memory.specs.Reader.{Reader}
use Rattle.instructions.specs.Plan.{Plan, halt, move, store, enter, leave}
use Rattle.crossings.specs.Crossing.{enter_of, leave_of}
use Rattle.instructions.specs.Made.{place_of}
use Rattle.runs.specs.Step.{Act, stop, proceed, put, cross, resolve, recent_after, decide}
use Rattle.executions.proofs.Parts.{planned}
use Rattle.executions.proofs.Says.{Says, itself, says-bind}

-- P holds of the record that an act crosses to
abbrev pub CrossesTo : (Machine → Type 0) → Act → Type 0
CrossesTo P stop = Unit {0}
CrossesTo P (proceed a s w ps rs) = Unit {0}
CrossesTo P (put p v rs) = Unit {0}
CrossesTo P (cross n) = P n

module _ (m : Machine) (P : Machine → Type 0) (fetched : Answer ℕ) (read : Reader)
    (enters : (p : Pointer) → planned m fetched read ≡ ok (enter p) → Says P (enter_of m read p))
    (leaves : (p : Pointer) → planned m fetched read ≡ ok (leave p) → Says P (leave_of m (place_of m.pointers (fetched >>= instruction_of)) p)) where
  abbrev q : Pointer
  q = place_of m.pointers (fetched >>= instruction_of)

  resolve-crosses : (rs : List Register) (plan : Plan) → planned m fetched read ≡ ok plan → Says (CrossesTo P) (resolve m read rs q plan)
  resolve-crosses rs halt e = tt
  resolve-crosses rs (move a s w ps) e = tt
  resolve-crosses rs (store p v) e = tt
  resolve-crosses rs (enter p) e = says-bind P (CrossesTo P) (enter_of m read p) (λ n. ok (cross n)) (enters p e) (λ n h. h)
  resolve-crosses rs (leave p) e = says-bind P (CrossesTo P) (leave_of m q p) (λ n. ok (cross n)) (leaves p e) (λ n h. h)

  pub decide-crosses : Says (CrossesTo P) (decide m fetched read)
  unfolding decide
  decide-crosses =
      says-bind (λ plan. planned m fetched read ≡ ok plan) (CrossesTo P) (planned m fetched read) (resolve m read (recent_after m read (fetched >>= instruction_of)) q)
      (itself (planned m fetched read)) (resolve-crosses (recent_after m read (fetched >>= instruction_of)))
