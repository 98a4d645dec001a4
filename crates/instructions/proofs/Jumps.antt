-- What an opcode that neither reads into A nor stores does, by whether it jumps.
use Rattle.std.specs.Prelude.{if◌then◌else◌}
use Prim.Native.Nat.{ℕ}
use mathlib.Core.Bool.{Bool, true, false, not}
use mathlib.Core.List.{List}
use mathlib.Core.Path.{◌≡◌, refl, sym}
use borrow.Author.Tests.{eqb-true}
use lib.Dec.{eqb}
use Rattle.words.specs.Answer.{Answer, ok}
use Rattle.words.specs.declared.pointer.Pointer.{Pointer}
use Rattle.state.specs.declared.record.Registers.{Registers}
use Rattle.references.proofs.Passes.{never}
use Rattle.memory.specs.Reader.{Reader}
use Rattle.instructions.specs.Plan.{Plan, leave}
use Rattle.instructions.specs.Instruction.{EPP, JUMP, CALL, RET, is_load, is_store, taken_of, jump_of, return_of, branch_of, effect_of, next}
use Rattle.instructions.specs.Private.{jumps_of}

-- EPP and CALL do not jump
not-epp : (opcode a : ℕ) (tag : Bool) → jumps_of opcode a tag ≡ true → eqb opcode EPP ≡ false
unfolding jumps_of taken_of
not-epp opcode a tag h = by (eqb opcode EPP) refl
  where
    by : (t : Bool) → eqb opcode EPP ≡ t → t ≡ false
    by true q = never (rw (eqb-true opcode EPP q) at h)
    by false q = refl

not_call : (opcode a : ℕ) (tag : Bool) → jumps_of opcode a tag ≡ true → eqb opcode CALL ≡ false
unfolding jumps_of taken_of
not_call opcode a tag h = by (eqb opcode CALL) refl
  where
    by : (t : Bool) → eqb opcode CALL ≡ t → t ≡ false
    by true q = never (rw (eqb-true opcode CALL q) at h)
    by false q = refl

-- by whether the opcode is JUMP, or RET, the tag, and whether a branch is taken
to-there : {A : Type 0} (j t tag taken : Bool) (there back on : A) → (if j then true else (if t then not tag else taken)) ≡ true → (if j then there else (if t then (if tag then back else there) else (if taken then there else on))) ≡ there
to-there true t tag taken there back on h = refl
to-there false true true taken there back on h = never h
to-there false true false taken there back on h = refl
to-there false false tag true there back on h = refl
to-there false false tag false there back on h = never h

to-next : {A : Type 0} (j taken : Bool) (there on : A) → (if j then true else taken) ≡ false → (if j then there else (if taken then there else on)) ≡ on
to-next true taken there on h = never (sym h)
to-next false true there on h = never (sym h)
to-next false false there on h = refl

to_back : {A : Type 0} (tag : Bool) (there back : A) → not tag ≡ false → (if tag then back else there) ≡ back
to_back true there back h = refl
to_back false there back h = never (sym h)

module _ (lengths gates rights stacks : List ℕ) (depth : ℕ) (r : Registers) (pointers : List Pointer) (read : Reader) (opcode register : ℕ) (p : Pointer) (no-load : is_load opcode ≡ false) (no_store : is_store opcode ≡ false) where
  abbrev does : Answer Plan
  does = effect_of lengths gates rights stacks depth r pointers read opcode register p

  abbrev there : Answer Plan
  there = jump_of lengths gates rights stacks depth r pointers p

  abbrev on : Answer Plan
  on = ok (next lengths gates rights stacks depth r pointers r.a)

  pub jumping : jumps_of opcode r.a p.tag ≡ true → does ≡ there
  unfolding jumps_of effect_of return_of branch_of
  jumping h =
      simp (no-load, no_store, not-epp opcode r.a p.tag h, not_call opcode r.a p.tag h)
      (to-there (eqb opcode JUMP) (eqb opcode RET) p.tag (taken_of opcode r.a) there (ok (leave p)) on h)

  module _ (stays : jumps_of opcode r.a p.tag ≡ false) where
    pub moving-on : eqb opcode EPP ≡ false → eqb opcode CALL ≡ false → eqb opcode RET ≡ false → does ≡ on
    unfolding jumps_of effect_of branch_of
    moving-on e c t =
        simp (no-load, no_store, e, c, t)
        (to-next (eqb opcode JUMP) (taken_of opcode r.a) there on (rw t at stays))

    pub leaving-by : opcode ≡ RET → does ≡ ok (leave p)
    unfolding jumps_of effect_of return_of
    leaving-by t = simp (no-load, no_store) (rw t (to_back p.tag there (ok (leave p)) (rw t at stays)))
