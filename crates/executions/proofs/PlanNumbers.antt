-- What plans and frames refuse with is the number of a fault.
use Rattle.std.specs.Prelude.{if◌then◌else◌}
use Prim.Native.Nat.{ℕ, zero, suc, ◌+◌, ◌*◌}
use native.Mathlib.Omega.{arith}
use mathlib.Core.Bool.{Bool, true, false, not}
use mathlib.Core.List.{List}
use lib.Dec.{eqb, ltb, leb}
use lib.IntN.{pos}
use lib.ListN.{get_or, set, replicate}
use Rattle.words.specs.Answer.{Answer, ok, ◌>>◌, require}
use Rattle.words.specs.PointerWord.{pointer_of}
use Rattle.words.specs.InstructionWord.{instruction_of}
use Rattle.words.specs.ModeWord.{mode_of}
use Rattle.words.specs.declared.pointer.Pointer.{Pointer}
use Rattle.words.specs.declared.instruction.Instruction.{Instruction}
use Rattle.words.specs.declared.mode.Mode.{Mode}
use Rattle.state.specs.declared.record.Capability.{Capability}
use Rattle.state.specs.declared.record.Frame.{Frame}
use Rattle.state.specs.declared.record.Registers.{Registers}
use Rattle.state.specs.Record.{no_pointer, no_capability, of_segment}
use Rattle.references.specs.declared.flag.Flag.TheVariants as flag
use Rattle.references.specs.Flag.{has}
use Rattle.references.specs.Static.{exists, rights_of, static_of}
use Rattle.capabilities.specs.Search.{covers_of}
use Rattle.references.specs.Live.{live_match, passed_of}
use Rattle.memory.specs.Reader.{Reader}
use Rattle.addressing.specs.Effective.{displaced_by, through_of, effective_of}
use Rattle.instructions.specs.Plan.{enter, leave}
use Rattle.instructions.specs.Instruction.{jump_of, call_of, return_of, load_of, branch_of, is_load, is_store, taken_of, effect_of, execute_of, plan_of}
use Rattle.transfers.specs.Transfer.{call_way, jump_check}
use Rattle.arguments.specs.ArgumentList.{list_word, list_pointer, source_of, capability_of, argument_of, arguments_from, list_mode, list_capability, frame_after, frame_of}
use Rattle.executions.proofs.Fails.{Fails, judged-if, fails-require, fails-if, fails-accept, fails-bind, fails-past}
use Rattle.executions.proofs.CheckNumbers.{static-judged, match-fails, pointer-fails, instruction-fails, mode-fails, moved-fails}

-- plans and frames, with a reader whose refusals are faults
module _ (read : Reader) (reads : (p : Pointer) → Fails (read p)) where
  through-fails : (p : Pointer) → Fails (through_of read p)
  unfolding through_of
  through-fails p = fails-bind (read p) _ (reads p) (λ w. fails-bind (pointer_of w) _ (pointer-fails w) (λ q. tt))

  effective-fails : (pointers : List Pointer) (i : Instruction) → Fails (effective_of read pointers i)
  unfolding effective_of
  effective-fails pointers i =
      fails-bind (displaced_by (get_or pointers i.base no_pointer) i.offset) _ (moved-fails (get_or pointers i.base no_pointer) i.offset)
      (λ p. fails-if i.indirect (through_of read p) (ok p) (through-fails p) tt)

  module _ (lengths gates rights stacks : List ℕ) (depth : ℕ) (r : Registers) (pointers : List Pointer) where
    jump-fails : (p : Pointer) → Fails (jump_of lengths gates rights stacks depth r pointers p)
    unfolding jump_of jump_check
    jump-fails p =
        fails-accept (if p.tag then 28 else static_of lengths rights r.domain flag.Execute p.segment p.word) _
        (judged-if p.tag 28 _ (λ _. (omega arith, omega arith)) (static-judged lengths rights r.domain flag.Execute p.segment p.word))

    way-fails : (t x e g w d : Bool) → Fails (require t 28 >> require x 21 >> (if e then ok true else (require g 22 >> require w 29 >> require d 31 >> ok false)))
    way-fails false x e g w d = (omega arith, omega arith)
    way-fails true false e g w d = (omega arith, omega arith)
    way-fails true true true g w d = tt
    way-fails true true false false w d = (omega arith, omega arith)
    way-fails true true false true false d = (omega arith, omega arith)
    way-fails true true false true true false = (omega arith, omega arith)
    way-fails true true false true true true = tt

    call-way-fails : (p : Pointer) → Fails (call_way lengths gates rights r.domain depth p)
    unfolding call_way
    call-way-fails p =
        way-fails (not p.tag) (exists lengths p.segment p.word) (has (rights_of rights r.domain p.segment) flag.Execute) (has (rights_of rights r.domain p.segment) flag.Gate)
        (ltb p.word (of_segment gates p.segment)) (ltb depth 8)

    call-fails : (p : Pointer) → Fails (call_of lengths gates rights stacks depth r pointers p)
    unfolding call_of
    call-fails p = fails-bind (call_way lengths gates rights r.domain depth p) _ (call-way-fails p) (λ inside. fails-if inside _ (ok (enter p)) tt tt)

    return-fails : (p : Pointer) → Fails (return_of lengths gates rights stacks depth r pointers p)
    unfolding return_of
    return-fails p = fails-if p.tag (ok (leave p)) (jump_of lengths gates rights stacks depth r pointers p) tt (jump-fails p)

    load-fails : (opcode : ℕ) (p : Pointer) → Fails (load_of lengths gates rights stacks depth r pointers read opcode p)
    unfolding load_of
    load-fails opcode p = fails-bind (read p) _ (reads p) (λ w. tt)

    branch-fails : (t : Bool) (p : Pointer) → Fails (branch_of lengths gates rights stacks depth r pointers t p)
    unfolding branch_of
    branch-fails t p = fails-if t (jump_of lengths gates rights stacks depth r pointers p) _ (jump-fails p) tt

    effect-fails : (opcode register : ℕ) (p : Pointer) → Fails (effect_of lengths gates rights stacks depth r pointers read opcode register p)
    unfolding effect_of
    effect-fails opcode register p =
        fails-if (is_load opcode) _ _ (load-fails opcode p)
        (fails-if (is_store opcode) _ _ tt
        (fails-if (eqb opcode 5) _ _ tt
        (fails-if (eqb opcode 7) _ _ (jump-fails p)
        (fails-if (eqb opcode 8) _ _ (call-fails p)
        (fails-if (eqb opcode 9) _ _ (return-fails p) (branch-fails (taken_of opcode r.a) p))))))

    execute-fails : (i : Instruction) → Fails (execute_of lengths gates rights stacks depth r pointers read i)
    unfolding execute_of
    execute-fails i =
        fails-if (eqb i.opcode 0) _ _ tt
        (fails-if (eqb i.opcode 12) _ _ tt
        (fails-bind (effective_of read pointers i) _ (effective-fails pointers i) (λ p. effect-fails i.opcode i.register p)))

    pub plan-fails : (fetched : Answer ℕ) → Fails fetched → Fails (plan_of lengths gates rights stacks depth r pointers fetched read)
    unfolding plan_of
    plan-fails fetched h = fails-bind fetched _ h (λ w. fails-bind (instruction_of w) _ (instruction-fails w) (λ i. execute-fails i))

  module _ (a : Pointer) where
    word-fails : (k : ℕ) → Fails (list_word read a k)
    unfolding list_word
    word-fails k = fails-bind (displaced_by a (pos k)) read (moved-fails a (pos k)) reads

    list-pointer-fails : (k : ℕ) → Fails (list_pointer read a k)
    unfolding list_pointer
    list-pointer-fails k = fails-bind (list_word read a k) pointer_of (word-fails k) pointer-fails

    module _ (caller depth : ℕ) (f : Frame) where
      source-fails : (p : Pointer) (m : Mode) → Fails (source_of caller depth f p m)
      unfolding source_of passed_of
      source-fails p m =
          fails-if p.tag _ (ok caller)
          (fails-bind (live_match depth f (covers_of p.segment p.word m.length m.read m.write)) _ (match-fails depth f (covers_of p.segment p.word m.length m.read m.write)) (λ c. tt)) tt

      capability-fails : (p : Pointer) (v : ℕ) → Fails (capability_of caller depth f p v)
      unfolding capability_of
      capability-fails p v = fails-bind (mode_of v p.word) _ (mode-fails v p.word) (λ m. fails-bind (source_of caller depth f p m) _ (source-fails p m) (λ d. tt))

      argument-fails : (i : ℕ) → Fails (argument_of read a caller depth f i)
      unfolding argument_of
      argument-fails i =
          fails-bind (list_pointer read a (3 + 2 * i)) _ (list-pointer-fails (3 + 2 * i))
          (λ p. fails-bind (list_word read a (3 + 2 * i + 1)) _ (word-fails (3 + 2 * i + 1)) (λ v. capability-fails p v))

      arguments-fail : (k i : ℕ) (rows : List Capability) → Fails (arguments_from read a caller depth f k i rows)
      unfolding arguments_from
      arguments-fail zero i rows = tt
      arguments-fail (suc k) i rows = fails-bind (argument_of read a caller depth f i) _ (argument-fails i) (λ c. arguments-fail k (i + 1) (set rows i c))

      after-fails : (s : Pointer) (list : Capability) (n : ℕ) → Fails (frame_after read a s caller depth f list n)
      unfolding frame_after
      after-fails s list n =
          fails-bind (list_pointer read a 1) _ (list-pointer-fails 1)
          (λ back. fails-past (require (not back.tag) 30) _ (fails-require (not back.tag) 30 (omega arith, omega arith))
          (fails-past (displaced_by a (pos 2)) _ (moved-fails a (pos 2))
          (fails-bind (arguments_from read a caller depth f n 0 (replicate 9 no_capability)) _ (arguments-fail n 0 (replicate 9 no_capability)) (λ rows. tt))))

      pub frame-fails : (s : Pointer) → Fails (frame_of read a s caller depth f)
      unfolding frame_of
      frame-fails s =
          fails-bind (list_word read a 0) _ (word-fails 0)
          (λ n. fails-past (require (leb n 8) 30) _ (fails-require (leb n 8) 30 (omega arith, omega arith))
          (fails-bind (source_of caller depth f a (list_mode n)) _ (source-fails a (list_mode n)) (λ source. after-fails s (list_capability a source n) n)))
