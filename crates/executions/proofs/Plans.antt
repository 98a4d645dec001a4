-- What a sound machine plans is in range.
use Rattle.std.specs.Prelude.{if◌then◌else◌}
use Prim.Native.Nat.{ℕ, ◌+◌, ◌<◌, ◌≤◌}
use native.Mathlib.Omega.{arith}
use mathlib.Core.Bool.{Bool, true, false, not}
use mathlib.Core.List.{List}
use mathlib.Core.Path.{◌≡◌, refl, sym}
use borrow.Author.Tests.{ltb-true}
use lib.Dec.{eqb, ltb}
use lib.ListN.{get_or}
use Rattle.words.specs.Answer.{Answer, ok, ◌>>◌, require}
use Rattle.words.specs.InstructionWord.{instruction_of}
use Rattle.words.specs.declared.pointer.Pointer.{Pointer}
use Rattle.words.specs.declared.instruction.Instruction.{Instruction}
use Rattle.state.specs.declared.record.Registers.{Registers}
use Rattle.soundness.proofs.Facts.{PointerSound, PointersSound}
use Rattle.soundness.proofs.Kept.{pointer-set}
use Rattle.references.specs.declared.flag.Flag.TheVariants as flag
use Rattle.references.specs.Flag.{has}
use Rattle.references.specs.Static.{exists, rights_of, static_of}
use Rattle.references.proofs.Passes.{static-exists, exists-facts, never}
use Rattle.memory.specs.Reader.{Reader}
use Rattle.addressing.specs.Effective.{effective_of}
use Rattle.instructions.specs.Plan.{Plan, halt, move, store, enter, leave}
use Rattle.instructions.specs.Instruction.{jump_of, call_of, return_of, load_of, branch_of, is_load, is_store, taken_of, effect_of, execute_of, plan_of}
use Rattle.transfers.specs.Transfer.{call_way, jump_check}
use Rattle.pointer_registers.specs.Stack.{with_base, stack_of}
use Rattle.executions.proofs.Says.{Says, says-bind, says_then, says_if, says-accept}
use Rattle.executions.proofs.Pointers.{BaseLt, base-lt, effective-sound}
use Rattle.state.specs.Record.{of_segment}

-- a segment, a word and pointers to go on with
pub record Placed (s w : ℕ) (ps : List Pointer) : Type 0 where
  pub segment : s ≤ 15
  pub word : w ≤ 4096
  pub pointers : PointersSound ps

-- pointer register b at a stack segment
pub base-sound : (ps : List Pointer) (stack : ℕ) → PointersSound ps → stack ≤ 15 → PointersSound (with_base ps stack)
base-sound ps stack s h = pointer-set ps 2 (record { word = 0; segment = stack; tag = false }) s (record { segment = h; word = omega arith })

-- no segment has more than 4,096 words
abbrev pub Few : List ℕ → Type 0
Few lengths = (s : ℕ) → s < 16 → get_or lengths s 0 ≤ 4096

pub exists-sound : (lengths : List ℕ) (p : Pointer) → Few lengths → exists lengths p.segment p.word ≡ true → PointerSound p
exists-sound lengths p few e =
    let f = exists-facts lengths p.segment p.word e in
    record { segment = omega (arith, f.0); word = omega (arith, f.1, few p.segment f.0) }

jump-exists : (lengths rights : List ℕ) (d : ℕ) (p : Pointer) → jump_check lengths rights d p ≡ 0 → exists lengths p.segment p.word ≡ true
unfolding jump_check
jump-exists lengths rights d p e = by p.tag e
  where
    by : (t : Bool) → ◌≡◌ {A = ℕ} (if t then 28 else static_of lengths rights d flag.Execute p.segment p.word) 0 → exists lengths p.segment p.word ≡ true
    by true e = absurd (omega arith)
    by false e = static-exists lengths rights d flag.Execute p.segment p.word e

-- a call that passes its checks in a row: the word exists (x); one through a gate has no E (e), the word is one (w) and a frame is free (d)
abbrev Way : Bool → Bool → Bool → Bool → Bool → Type 0
Way x e w d inside = (x ≡ true) × (inside ≡ false → (e ≡ false) × ((w ≡ true) × (d ≡ true)))

way : (t x e g w d : Bool) → Says (Way x e w d) (require t 28 >> require x 21 >> (if e then ok true else (require g 22 >> require w 29 >> require d 31 >> ok false)))
way false x e g w d = tt
way true false e g w d = tt
way true true true g w d = (refl, λ f. never (sym f))
way true true false false w d = tt
way true true false true false d = tt
way true true false true true false = tt
way true true false true true true = (refl, λ f. (refl, (refl, refl)))

abbrev WayOf : List ℕ → List ℕ → List ℕ → ℕ → ℕ → Pointer → Bool → Type 0
WayOf lengths gates rights d depth p =
    Way (exists lengths p.segment p.word) (has (rights_of rights d p.segment) flag.Execute) (ltb p.word (of_segment gates p.segment)) (ltb depth 8)

call-way : (lengths gates rights : List ℕ) (d depth : ℕ) (p : Pointer) → Says (WayOf lengths gates rights d depth p) (call_way lengths gates rights d depth p)
unfolding call_way
call-way lengths gates rights d depth p =
    way (not p.tag) (exists lengths p.segment p.word) (has (rights_of rights d p.segment) flag.Execute) (has (rights_of rights d p.segment) flag.Gate)
    (ltb p.word (of_segment gates p.segment)) (ltb depth 8)

-- a gate that exists, with a frame free for a call through it by a domain without E there
pub record Gated (lengths gates rights : List ℕ) (domain depth : ℕ) (p : Pointer) : Type 0 where
  pub sound : PointerSound p
  pub exists-is : exists lengths p.segment p.word ≡ true
  pub outside : has (rights_of rights domain p.segment) flag.Execute ≡ false
  pub gate : p.word < of_segment gates p.segment
  pub free : depth < 8

module _ (lengths gates rights stacks : List ℕ) (depth : ℕ) (r : Registers) (pointers : List Pointer) where
  abbrev pub PlanSound : Plan → Type 0
  PlanSound halt = Unit {0}
  PlanSound (move a s w ps) = Placed s w ps
  PlanSound (store p v) = Placed r.segment (r.word + 1) pointers
  PlanSound (enter p) = Gated lengths gates rights r.domain depth p
  PlanSound (leave p) = Unit {0}

  module _ (few : Few lengths) (stack : stack_of stacks r.domain ≤ 15) (ps : PointersSound pointers) (read : Reader) where
    jump-sound : (p : Pointer) → Says PlanSound (jump_of lengths gates rights stacks depth r pointers p)
    unfolding jump_of
    jump-sound p = says-accept PlanSound (jump_check lengths rights r.domain p) (move r.a p.segment p.word pointers) at
      where
        at : jump_check lengths rights r.domain p ≡ 0 → Placed p.segment p.word pointers
        at e =
            let s = exists-sound lengths p few (jump-exists lengths rights r.domain p e) in
            record { segment = s.segment; word = omega (arith, s.word); pointers = ps }

    call-sound : (p : Pointer) → Says PlanSound (call_of lengths gates rights stacks depth r pointers p)
    unfolding call_of
    call-sound p =
        says-bind (WayOf lengths gates rights r.domain depth p) PlanSound (call_way lengths gates rights r.domain depth p) _ (call-way lengths gates rights r.domain depth p)
        (λ inside w. says_if PlanSound inside (ok (move r.a p.segment p.word (with_base pointers (stack_of stacks r.domain)))) (ok (enter p)) (λ _. within w.0) (λ f. gated w.0 (w.1 f)))
      where
        within : exists lengths p.segment p.word ≡ true → Placed p.segment p.word (with_base pointers (stack_of stacks r.domain))
        within e =
            let s = exists-sound lengths p few e in
            record { segment = s.segment; word = omega (arith, s.word); pointers = base-sound pointers _ ps stack }

        gated : (x : exists lengths p.segment p.word ≡ true) → (has (rights_of rights r.domain p.segment) flag.Execute ≡ false) × ((ltb p.word (of_segment gates p.segment) ≡ true) × (ltb depth 8 ≡ true))
            → Gated lengths gates rights r.domain depth p
        gated x t = record { sound = exists-sound lengths p few x; exists-is = x; outside = t.0; gate = ltb-true _ _ t.1.0; free = ltb-true depth 8 t.1.1 }

    return-sound : (p : Pointer) → Says PlanSound (return_of lengths gates rights stacks depth r pointers p)
    unfolding return_of
    return-sound p = says_if PlanSound p.tag (ok (leave p)) (jump_of lengths gates rights stacks depth r pointers p) (λ _. tt) (λ _. jump-sound p)

    -- instructions without transfer, after a fetch below word 4,096
    module _ (on : Placed r.segment (r.word + 1) pointers) where
      load-sound : (opcode : ℕ) (p : Pointer) → Says PlanSound (load_of lengths gates rights stacks depth r pointers read opcode p)
      unfolding load_of
      load-sound opcode p = says_then PlanSound (read p) _ (λ w. on)

      branch-sound : (t : Bool) (p : Pointer) → Says PlanSound (branch_of lengths gates rights stacks depth r pointers t p)
      unfolding branch_of
      branch-sound t p = says_if PlanSound t (jump_of lengths gates rights stacks depth r pointers p) _ (λ _. jump-sound p) (λ _. on)

      effect-sound : (opcode register : ℕ) (p : Pointer) → PointerSound p → Says PlanSound (effect_of lengths gates rights stacks depth r pointers read opcode register p)
      unfolding effect_of
      effect-sound opcode register p sp =
          says_if PlanSound (is_load opcode) _ _ (λ _. load-sound opcode p) (λ _.
          says_if PlanSound (is_store opcode) _ _ (λ _. on) (λ _.
          says_if PlanSound (eqb opcode 5) _ _ (λ _. record { segment = on.segment; word = on.word; pointers = pointer-set pointers register p ps sp }) (λ _.
          says_if PlanSound (eqb opcode 7) _ _ (λ _. jump-sound p) (λ _.
          says_if PlanSound (eqb opcode 8) _ _ (λ _. call-sound p) (λ _.
          says_if PlanSound (eqb opcode 9) _ _ (λ _. return-sound p) (λ _. branch-sound (taken_of opcode r.a) p))))))

      execute-sound : (i : Instruction) → BaseLt i → Says PlanSound (execute_of lengths gates rights stacks depth r pointers read i)
      unfolding execute_of
      execute-sound i b =
          says_if PlanSound (eqb i.opcode 0) _ _ (λ _. tt) (λ _.
          says_if PlanSound (eqb i.opcode 12) _ _ (λ _. on) (λ _.
          says-bind PointerSound PlanSound (effective_of read pointers i) _ (effective-sound read pointers i ps b) (λ p sp. effect-sound i.opcode i.register p sp)))

    pub plan-sound : (fetched : Answer ℕ) → Says (λ w. Placed r.segment (r.word + 1) pointers) fetched
        → Says PlanSound (plan_of lengths gates rights stacks depth r pointers fetched read)
    unfolding plan_of
    plan-sound fetched on =
        says-bind (λ w. Placed r.segment (r.word + 1) pointers) PlanSound fetched _ on
        (λ w h. says-bind BaseLt PlanSound (instruction_of w) _ (base-lt w) (λ i b. execute-sound h i b))
