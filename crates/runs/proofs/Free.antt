-- A plan that enters a gate was made with a frame free.
use Rattle.std.specs.Prelude.{if◌then◌else◌}
use Prim.Native.Nat.{ℕ, ◌<◌}
use mathlib.Core.Bool.{Bool, true, false, not}
use mathlib.Core.List.{List}
use mathlib.Core.Path.{◌≡◌, refl}
use borrow.Author.Tests.{ltb-true}
use lib.Dec.{eqb, ltb}
use Rattle.words.specs.Answer.{Answer, refuse, ok, ◌>>=◌, ◌>>◌, require}
use Rattle.words.specs.InstructionWord.{instruction_of}
use Rattle.words.specs.declared.pointer.Pointer.{Pointer}
use Rattle.words.specs.declared.instruction.Instruction.{Instruction}
use Rattle.state.specs.declared.record.Registers.{Registers}
use Rattle.references.specs.declared.flag.Flag.TheVariants as flag
use Rattle.references.specs.Flag.{has}
use Rattle.references.specs.Static.{exists, rights_of}
use Rattle.references.specs.Reference.{accept}
use Rattle.memory.specs.Reader.{Reader}
use Rattle.addressing.specs.Effective.{effective_of}
use Rattle.instructions.specs.Plan.{Plan, halt, move, store, enter, leave}
use Rattle.instructions.specs.Instruction.{jump_of, call_of, return_of, load_of, branch_of, is_load, is_store, taken_of, effect_of, execute_of, plan_of}
use Rattle.transfers.specs.Transfer.{call_way, jump_check}
use Rattle.pointer_registers.specs.Stack.{with_base, stack_of}
use Rattle.state.specs.Record.{of_segment}

module _ (depth : ℕ) where
  -- entering needs a frame free
  abbrev pub Free : Answer Plan → Type 0
  Free (refuse n) = Unit {0}
  Free (ok halt) = Unit {0}
  Free (ok (move a s w ps)) = Unit {0}
  Free (ok (store p v)) = Unit {0}
  Free (ok (enter p)) = depth < 8
  Free (ok (leave p)) = Unit {0}

  either-free : (t : Bool) (x y : Answer Plan) → Free x → Free y → Free (if t then x else y)
  either-free true x y fx fy = fx
  either-free false x y fx fy = fy

  then-free : {A : Type 0} (a : Answer A) (f : A → Answer Plan) → ((x : A) → Free (f x)) → Free (a >>= f)
  then-free (refuse n) f h = tt
  then-free (ok x) f h = h x

  accept-free : (n a s w : ℕ) (ps : List Pointer) → Free (accept n (move a s w ps))
  accept-free n a s w ps = either-free (eqb n 0) (ok (move a s w ps)) (refuse n) tt tt

  module _ (lengths gates rights stacks : List ℕ) (r : Registers) (pointers : List Pointer) (read : Reader) where
    jump-free : (p : Pointer) → Free (jump_of lengths gates rights stacks depth r pointers p)
    unfolding jump_of
    jump-free p = accept-free (jump_check lengths rights r.domain p) r.a p.segment p.word pointers

    -- the way through a gate ends with a frame free
    way-free : (t x e g w d : Bool) (plan : Answer Plan) → Free plan → (d ≡ true → depth < 8) → (p : Pointer)
        → Free ((require t 28 >> require x 21 >> (if e then ok true else (require g 22 >> require w 29 >> require d 31 >> ok false))) >>= (λ inside. if inside then plan else ok (enter p)))
    way-free false x e g w d plan f h p = tt
    way-free true false e g w d plan f h p = tt
    way-free true true true g w d plan f h p = f
    way-free true true false false w d plan f h p = tt
    way-free true true false true false d plan f h p = tt
    way-free true true false true true false plan f h p = tt
    way-free true true false true true true plan f h p = h refl

    call-free : (p : Pointer) → Free (call_of lengths gates rights stacks depth r pointers p)
    unfolding call_of call_way
    call-free p =
        way-free (not p.tag) (exists lengths p.segment p.word) (has (rights_of rights r.domain p.segment) flag.Execute) (has (rights_of rights r.domain p.segment) flag.Gate) (ltb p.word (of_segment gates p.segment)) (ltb depth 8)
        (ok (move r.a p.segment p.word (with_base pointers (stack_of stacks r.domain)))) tt (ltb-true depth 8) p

    load-free : (opcode : ℕ) (p : Pointer) → Free (load_of lengths gates rights stacks depth r pointers read opcode p)
    unfolding load_of
    load-free opcode p = then-free (read p) _ (λ w. tt)

    return-free : (p : Pointer) → Free (return_of lengths gates rights stacks depth r pointers p)
    unfolding return_of
    return-free p = either-free p.tag (ok (leave p)) (jump_of lengths gates rights stacks depth r pointers p) tt (jump-free p)

    branch-free : (t : Bool) (p : Pointer) → Free (branch_of lengths gates rights stacks depth r pointers t p)
    unfolding branch_of
    branch-free t p = either-free t (jump_of lengths gates rights stacks depth r pointers p) _ (jump-free p) tt

    effect-free : (opcode register : ℕ) (p : Pointer) → Free (effect_of lengths gates rights stacks depth r pointers read opcode register p)
    unfolding effect_of
    effect-free opcode register p =
        either-free (is_load opcode) _ _ (load-free opcode p)
        (either-free (is_store opcode) _ _ tt
        (either-free (eqb opcode 5) _ _ tt
        (either-free (eqb opcode 7) _ _ (jump-free p)
        (either-free (eqb opcode 8) _ _ (call-free p)
        (either-free (eqb opcode 9) _ _ (return-free p) (branch-free (taken_of opcode r.a) p))))))

    execute-free : (i : Instruction) → Free (execute_of lengths gates rights stacks depth r pointers read i)
    unfolding execute_of
    execute-free i =
        either-free (eqb i.opcode 0) _ _ tt
        (either-free (eqb i.opcode 12) _ _ tt
        (then-free (effective_of read pointers i) _ (λ p. effect-free i.opcode i.register p)))

    pub plan-free : (fetched : Answer ℕ) → Free (plan_of lengths gates rights stacks depth r pointers fetched read)
    unfolding plan_of
    plan-free fetched = then-free fetched _ (λ w. then-free (instruction_of w) _ (λ i. execute-free i))
