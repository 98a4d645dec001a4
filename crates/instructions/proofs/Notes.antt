-- The registers after an instruction's references, one by one.
use Rattle.std.specs.Prelude.{if◌then◌else◌}
use Prim.Native.Nat.{ℕ}
use mathlib.Core.Bool.{Bool, true, false, ◌||◌}
use mathlib.Core.List.{List, [], ◌∷◌}
use mathlib.Core.Path.{◌≡◌, refl, sym, ap, ◌∙◌}
use native.Mathlib.Omega.{arith}
use lib.ListN.{get_or}
use Rattle.words.specs.Answer.{Answer, refuse, ok, ◌>>=◌}
use Rattle.words.specs.PointerWord.{pointer_of}
use Rattle.words.specs.declared.pointer.Pointer.{Pointer}
use Rattle.words.specs.declared.instruction.Instruction.{Instruction}
use Rattle.state.specs.declared.record.Frame.{Frame}
use Rattle.state.specs.declared.record.Register.{Register}
use Rattle.state.specs.declared.record.Registers.{Registers}
use Rattle.state.specs.Record.{no_pointer}
use Rattle.references.proofs.Passes.{never}
use Rattle.references.specs.Made.{MadeReference, made_read, renewed, renewed_all}
use Rattle.references.specs.declared.flag.Flag.TheVariants as flag
use Rattle.references.specs.Static.{static_of}
use Rattle.transfers.specs.Transfer.{jump_check, call_way}
use Rattle.transfers.proofs.Transfers.{way-tagged}
use Rattle.memory.specs.Reader.{Reader}
use Rattle.addressing.specs.Effective.{displaced_by, placed, through_of, effective_of}
use Rattle.instructions.specs.declared.cycle.Cycle.{Cycle}
use Rattle.instructions.specs.declared.cycle.Event.{Event}
use Rattle.instructions.specs.declared.cycle.Event.TheVariants as event
use Rattle.instructions.specs.Instruction.{is_load, is_store}
use Rattle.instructions.specs.Made.{indirect_place, operand_made}
use Rattle.instructions.specs.Cycle.{Progress, ended, moved, entering, leaving, event_answer, cycle_answer, recent_by}
use Rattle.instructions.specs.Private.{Reached, called}

module _ (depth : ℕ) (f : Frame) where
  pub first-noted : (rs xs ys : List Register) (x : MadeReference) (rest : List MadeReference) → xs ≡ renewed rs depth f x → ys ≡ renewed_all xs depth f rest → ys ≡ renewed_all rs depth f (x ∷ rest)
  unfolding renewed_all
  first-noted rs xs ys x rest e q = q ∙ ap (λ (z : List Register). renewed_all z depth f rest) e

  pub last-noted : (xs ys : List Register) (y : MadeReference) → ys ≡ renewed xs depth f y → ys ≡ renewed_all xs depth f (y ∷ [])
  unfolding renewed_all
  last-noted xs ys y e = e

  -- an untagged reference does not use the registers
  pub untagged-renewed : (rs : List Register) (x : MadeReference) → x.pointer.tag ≡ false → renewed rs depth f x ≡ rs
  unfolding renewed
  untagged-renewed rs x e = rw e

  pub untagged-noted : (rs : List Register) (q : Pointer) (x : MadeReference) → q.tag ≡ false → x.pointer.tag ≡ false → renewed_all rs depth f (made_read q ∷ x ∷ []) ≡ rs
  unfolding renewed_all
  untagged-noted rs q x e u = ap (λ (z : List Register). renewed z depth f x) (untagged-renewed rs (made_read q) e) ∙ untagged-renewed rs x u

  pub untagged-indirect : (rs : List Register) (q : Pointer) → q.tag ≡ false → renewed_all rs depth f (made_read q ∷ []) ≡ rs
  unfolding renewed_all
  untagged-indirect rs q e = untagged-renewed rs (made_read q) e

module _ (opcode : ℕ) (p : Pointer) where
  nothing-made : is_load opcode ≡ false → is_store opcode ≡ false → operand_made opcode p ≡ []
  nothing-made e q = rw (e, q)

  -- an opcode without an operand: its indirect word alone is noted, and an untagged one not at all
  module _ (depth : ℕ) (f : Frame) (rs : List Register) (q : Pointer) (l : is_load opcode ≡ false) (s : is_store opcode ≡ false) where
    pub indirect-noted : (ys : List Register) → ys ≡ renewed_all rs depth f (made_read q ∷ []) → ys ≡ renewed_all rs depth f (made_read q ∷ operand_made opcode p)
    indirect-noted ys e = e ∙ ap (λ (x : List MadeReference). renewed_all rs depth f (made_read q ∷ x)) (sym (nothing-made l s))

    pub nothing-noted : q.tag ≡ false → renewed_all rs depth f (made_read q ∷ operand_made opcode p) ≡ rs
    nothing-noted e = sym (indirect-noted rs (sym (untagged-indirect depth f rs q e)))

-- the registers by where the instruction came to
pub recent-same : (rs : List Register) (x : Answer Progress) → recent_by rs rs x ≡ rs
recent-same rs (refuse n) = refl
recent-same rs (ok ended) = refl
recent-same rs (ok (moved s ps)) = refl
recent-same rs (ok (entering p)) = refl
recent-same rs (ok (leaving p q)) = refl

-- an instruction moved on
abbrev is_moved : Event → Bool
is_moved event.Moved = true
is_moved (event.Pointed i p) = true
is_moved event.Halted = false
is_moved (event.Entering p) = false
is_moved (event.Leaving p q) = false
is_moved (event.Faulted n) = false

module _ (rs next : List Register) (r : Registers) (pointers : List Pointer) where
  pub recent-stays : (e : Event) → is_moved e ≡ false → recent_by rs next (event_answer r pointers e) ≡ rs
  recent-stays event.Moved e = never (sym e)
  recent-stays (event.Pointed i p) e = never (sym e)
  recent-stays event.Halted e = refl
  recent-stays (event.Entering p) e = refl
  recent-stays (event.Leaving p q) e = refl
  recent-stays (event.Faulted n) e = refl

  pub recent-moves : (e : Event) → is_moved e ≡ true → recent_by rs next (event_answer r pointers e) ≡ next
  recent-moves event.Moved e = refl
  recent-moves (event.Pointed i p) e = refl
  recent-moves event.Halted e = never e
  recent-moves (event.Entering p) e = never e
  recent-moves (event.Leaving p q) e = never e
  recent-moves (event.Faulted n) e = never e

-- the tag of an indirect word's place goes into the effective pointer
pub effective-reached : (read : Reader) (pointers : List Pointer) (i : Instruction) (p : Pointer) → effective_of read pointers i ≡ ok p → Reached (indirect_place pointers i) p
unfolding effective_of indirect_place through_of
effective-reached read pointers i p e = by i.indirect (displaced_by (get_or pointers i.base no_pointer) i.offset) e
  where
    untrue : {A : Type 0} (n : ℕ) → refuse n ≡ ok p → A
    untrue n e = absurd (let z : ◌≡◌ {A = ℕ} 0 1 = cc in omega arith)

    through : (a : Pointer) (x : Answer ℕ)
        → (x >>= (λ w. pointer_of w >>= (λ q. ok (record { word = q.word; segment = q.segment; tag = a.tag || q.tag })))) ≡ ok p → p.tag ≡ false → a.tag ≡ false
    through a (refuse n) e = untrue n e
    through a (ok w) e = to (pointer_of w) e
      where
        or-false : (s t : Bool) → (s || t) ≡ false → s ≡ false
        or-false true t h = h
        or-false false t h = refl

        to : (x : Answer Pointer) → (x >>= (λ q. ok (record { word = q.word; segment = q.segment; tag = a.tag || q.tag }))) ≡ ok p → p.tag ≡ false → a.tag ≡ false
        to (refuse n) e = untrue n e
        to (ok q) e = λ h. or-false a.tag q.tag (let z : (a.tag || q.tag) ≡ p.tag = cc in z ∙ h)

    by : (t : Bool) (x : Answer Pointer) → (x >>= (λ a. if t then through_of read a else ok a)) ≡ ok p → p.tag ≡ false → (if t then placed x else no_pointer).tag ≡ false
    by false x e h = refl
    by true (refuse n) e h = refl
    by true (ok a) e h = through a (read a) e h

-- an instruction that stays leaves the registers; so does one that moves on without a reference
pub stay-recent : (rs next : List Register) (ps : List Pointer) (t : Cycle) (r : Registers) (e : Event) → t ≡ record { registers = r; event = e } → is_moved e ≡ false
    → rs ≡ recent_by rs next (cycle_answer ps t)
stay-recent rs next ps t r e q m = sym (ap (λ (x : Cycle). recent_by rs next (cycle_answer ps x)) q ∙ recent-stays rs next r ps e m)

pub moved-recent : (rs next : List Register) (ps : List Pointer) (t : Cycle) (r : Registers) (e : Event) → t ≡ record { registers = r; event = e } → is_moved e ≡ true
    → next ≡ recent_by rs next (cycle_answer ps t)
moved-recent rs next ps t r e q m = sym (ap (λ (x : Cycle). recent_by rs next (cycle_answer ps x)) q ∙ recent-moves rs next r ps e m)

pub move-recent : (rs : List Register) (ps : List Pointer) (t : Cycle) → rs ≡ recent_by rs rs (cycle_answer ps t)
move-recent rs ps t = sym (recent-same rs (cycle_answer ps t))

pub idle-recent : (rs next : List Register) (x : Answer Progress) → next ≡ rs → rs ≡ recent_by rs next x
idle-recent rs next x e = sym (ap (λ (z : List Register). recent_by rs z x) e ∙ recent-same rs x)

-- a jump or a call through a tagged pointer is refused
pub jump-untagged : (lengths rights : List ℕ) (domain : ℕ) (p : Pointer) → jump_check lengths rights domain p ≡ 0 → p.tag ≡ false
unfolding jump_check
jump-untagged lengths rights domain p e = by p.tag e
  where
    by : (t : Bool) → (if t then 28 else static_of lengths rights domain flag.Execute p.segment p.word) ≡ 0 → t ≡ false
    by true e = absurd (omega (arith, e))
    by false e = refl

pub call-recent : (lengths gates rights : List ℕ) (domain depth stack : ℕ) (r : Registers) (ps : List Pointer) (p : Pointer) (rs next : List Register) → (p.tag ≡ false → next ≡ rs)
    → rs ≡ recent_by rs next (called r ps stack p (call_way lengths gates rights domain depth p))
call-recent lengths gates rights domain depth stack r ps p rs next h = by p.tag refl
  where
    by : (t : Bool) → p.tag ≡ t → rs ≡ recent_by rs next (called r ps stack p (call_way lengths gates rights domain depth p))
    by true e = rw (way-tagged lengths gates rights domain depth p e) refl
    by false e = idle-recent rs next (called r ps stack p (call_way lengths gates rights domain depth p)) (h e)
