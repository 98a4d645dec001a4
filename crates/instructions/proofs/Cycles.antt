-- Where each instruction's plan settles, and that only a store changes words.
use Rattle.std.specs.Prelude.{if◌then◌else◌}
use Prim.Native.Nat.{ℕ}
use mathlib.Core.Bool.{Bool, true, false}
use mathlib.Core.List.{List}
use mathlib.Core.Path.{◌≡◌, refl}
use lib.Dec.{eqb}
use Rattle.words.specs.Answer.{Answer, refuse, ok, ◌>>=◌}
use Rattle.words.specs.declared.pointer.Pointer.{Pointer}
use Rattle.state.specs.declared.record.Frame.{Frame}
use Rattle.state.specs.declared.record.Register.{Register}
use Rattle.state.specs.declared.record.Registers.{Registers}
use Rattle.references.specs.Reference.{accept}
use Rattle.memory.specs.Reader.{Reader}
use Rattle.instructions.specs.Plan.{Plan, move, enter}
use Rattle.transfers.specs.Transfer.{jump_check, call_way}
use Rattle.instructions.specs.Instruction.{jump_of, call_of, load_of, next, operate_of}
use Rattle.pointer_registers.specs.Stack.{stack_of, with_base}
use Rattle.instructions.specs.Cycle.{Progress, moved, moved_registers, settled_words}
use Rattle.instructions.specs.Private.{loaded, called, settled_answer}

module _ (lengths gates rights stacks bases words : List ℕ) (recent : List Register) (depth : ℕ) (frame : Frame) (r : Registers) (pointers : List Pointer) (q : Pointer) where
  abbrev to : Answer Plan → Answer Progress
  to = settled_answer lengths rights bases words recent depth frame r pointers q

  abbrev left : Answer Plan → List ℕ
  left = settled_words lengths rights bases words recent depth frame r pointers

  -- a plan without a store that settles there
  pub record Settles (plan : Answer Plan) (turned : Answer Progress) : Type 0 where
    pub there : to plan ≡ turned
    pub words-stay : left plan ≡ words

  accepted : (v : ℕ) (a s w : ℕ) (ps : List Pointer) → Settles (accept v (move a s w ps)) (accept v (moved (moved_registers r a s w) ps))
  accepted v a s w ps = by (eqb v 0)
    where
      by : (t : Bool) → Settles (if t then ok (move a s w ps) else refuse v) (if t then ok (moved (moved_registers r a s w) ps) else refuse v)
      by true = record { there = refl; words-stay = refl }
      by false = record { there = refl; words-stay = refl }

  pub load-settles : (read : Reader) (opcode : ℕ) (p : Pointer) → Settles (load_of lengths gates rights stacks depth r pointers read opcode p) (loaded r pointers opcode (read p))
  unfolding load_of
  load-settles read opcode p = by (read p)
    where
      by : (x : Answer ℕ) → Settles (x >>= (λ w. ok (next lengths gates rights stacks depth r pointers (operate_of opcode r.a w)))) (loaded r pointers opcode x)
      by (refuse n) = record { there = refl; words-stay = refl }
      by (ok w) = record { there = refl; words-stay = refl }

  pub jump-settles : (p : Pointer) → Settles (jump_of lengths gates rights stacks depth r pointers p) (accept (jump_check lengths rights r.domain p) (moved (moved_registers r r.a p.segment p.word) pointers))
  unfolding jump_of
  jump-settles p = accepted (jump_check lengths rights r.domain p) r.a p.segment p.word pointers

  pub call-settles : (p : Pointer) → Settles (call_of lengths gates rights stacks depth r pointers p) (called r pointers (stack_of stacks r.domain) p (call_way lengths gates rights r.domain depth p))
  unfolding call_of
  call-settles p = by (call_way lengths gates rights r.domain depth p)
    where
      by : (x : Answer Bool) → Settles (x >>= (λ inside. if inside then ok (move r.a p.segment p.word (with_base pointers (stack_of stacks r.domain))) else ok (enter p))) (called r pointers (stack_of stacks r.domain) p x)
      by (refuse n) = record { there = refl; words-stay = refl }
      by (ok true) = record { there = refl; words-stay = refl }
      by (ok false) = record { there = refl; words-stay = refl }
