-- An instruction of a machine with sound registers answers as with none.
use Rattle.std.specs.Prelude.{if◌then◌else◌}
use Prim.Native.Nat.{ℕ, ◌+◌, ◌≤◌}
use mathlib.Core.Bool.{Bool, true, false}
use mathlib.Core.List.{List, []}
use mathlib.Core.Path.{◌≡◌, refl, sym, ap, ◌∙◌}
use lib.Dec.{eqb}
use lib.ListN.{get_or, set}
use Rattle.words.specs.Answer.{Answer, refuse, ok, ◌>>=◌}
use Rattle.words.specs.InstructionWord.{instruction_of}
use Rattle.words.specs.declared.pointer.Pointer.{Pointer}
use Rattle.words.specs.declared.instruction.Instruction.{Instruction}
use Rattle.state.specs.declared.record.Frame.{Frame}
use Rattle.state.specs.declared.record.Register.{Register}
use Rattle.state.specs.declared.record.Machine.{Machine}
use Rattle.state.specs.Record.{no_pointer, in_use, live_frame}
use Rattle.soundness.proofs.Facts.{sound-facts}
use Rattle.recent.specs.SoundRegisters.{recent_test}
use Rattle.references.specs.declared.flag.Access.TheVariants as access
use Rattle.references.specs.Check.{check}
use Rattle.memory.specs.Reader.{Reader, read_word, fetch}
use Rattle.instructions.specs.Plan.{Plan, halt, move, store, enter, leave}
use Rattle.instructions.specs.Instruction.{plan_of}
use Rattle.instructions.specs.Made.{made_of, place_of}
use Rattle.arguments.specs.ArgumentList.{frame_of}
use Rattle.crossings.specs.Crossing.{entered, left, enter_of, leave_check, leave_of}
use Rattle.runs.specs.Step.{Act, stop, proceed, put, cross, Done, done, moved_to, proceeded, resolve, recent_after, decide, commit, execute}
use Rattle.recent_theorems.specs.Statements.{with_recent, bare, bare_done, SameStep}
use Rattle.recent_theorems.proofs.None.{none-all, none-called, none_left}
use Rattle.recent_theorems.proofs.Checks.{bare-check, bare-read}

-- what an instruction does, without registers
abbrev bare_act : Act → Act
bare_act stop = stop
bare_act (proceed a segment word pointers recent) = proceed a segment word pointers []
bare_act (put p v recent) = put p v []
bare_act (cross n) = cross (bare n)

abbrev bare_acts : Answer Act → Answer Act
bare_acts x = x >>= (λ a. ok (bare_act a))

module _ (m : Machine) where
  bare-entered : (p : Pointer) (f : Frame) → bare (entered m p f) ≡ entered (bare m) p f
  unfolding entered
  bare-entered p f = ap (with_recent (entered m p f)) (sym (none-called (in_use m.depth) (live_frame m.depth m.frames) (get_or m.pointers 0 no_pointer) f))

  bare-left : (q p : Pointer) (f : Frame) → bare (left m q p f) ≡ left (bare m) q p f
  unfolding left
  bare-left q p f = ap (with_recent (left m q p f)) (sym (none_left (in_use m.depth) f q))

  bare-enter : (read : Reader) (p : Pointer) → bare_acts (enter_of m read p >>= (λ n. ok (cross n))) ≡ (enter_of (bare m) read p >>= (λ n. ok (cross n)))
  unfolding enter_of
  bare-enter read p =
      by (frame_of read (get_or m.pointers 0 no_pointer) (get_or m.pointers 1 no_pointer) m.registers.domain (in_use m.depth) (live_frame m.depth m.frames))
    where
      by : (x : Answer Frame) → bare_acts ((x >>= (λ f. ok (entered m p f))) >>= (λ n. ok (cross n))) ≡ ((x >>= (λ f. ok (entered (bare m) p f))) >>= (λ n. ok (cross n)))
      by (refuse n) = refl
      by (ok f) = ap (λ (n : Machine). ok (cross n)) (bare-entered p f)

  bare-leave : (q p : Pointer) → bare_acts (leave_of m q p >>= (λ n. ok (cross n))) ≡ (leave_of (bare m) q p >>= (λ n. ok (cross n)))
  unfolding leave_of
  bare-leave q p =
      let n = leave_check m.layout.lengths m.layout.rights (in_use m.depth) f (get_or m.pointers 1 no_pointer) p in
      by n (eqb n 0)
    where
      f : Frame
      f = live_frame m.depth m.frames

      by : (n : ℕ) (t : Bool)
          → bare_acts ((if t then ok (left m q p f) else refuse n) >>= (λ n. ok (cross n))) ≡ ((if t then ok (left (bare m) q p f) else refuse n) >>= (λ n. ok (cross n)))
      by n true = ap (λ (n : Machine). ok (cross n)) (bare-left q p f)
      by n false = refl

  bare-recent : (read : Reader) (i : Answer Instruction) → recent_after (bare m) read i ≡ []
  unfolding recent_after
  bare-recent read i = none-all (in_use m.depth) (live_frame m.depth m.frames) (made_of read m.pointers i)

  bare-resolve : (read : Reader) (recent : List Register) (q : Pointer) (plan : Plan) → bare_acts (resolve m read recent q plan) ≡ resolve (bare m) read [] q plan
  bare-resolve read recent q halt = refl
  bare-resolve read recent q (move a segment word pointers) = refl
  bare-resolve read recent q (store p v) = refl
  bare-resolve read recent q (enter p) = bare-enter read p
  bare-resolve read recent q (leave p) = bare-leave q p

  bare-decide : (fetched : Answer ℕ) (read : Reader) → bare_acts (decide m fetched read) ≡ decide (bare m) fetched read
  unfolding decide
  bare-decide fetched read =
      by (plan_of m.layout.lengths m.layout.gates m.layout.rights m.layout.stacks m.depth m.registers m.pointers fetched read)
    where
      i : Answer Instruction
      i = fetched >>= instruction_of

      q : Pointer
      q = place_of m.pointers i

      by : (x : Answer Plan) → bare_acts (x >>= resolve m read (recent_after m read i) q) ≡ (x >>= resolve (bare m) read (recent_after (bare m) read i) q)
      by (refuse n) = refl
      by (ok plan) = bare-resolve read (recent_after m read i) q plan ∙ ap (λ (rs : List Register). resolve (bare m) read rs q plan) (sym (bare-recent read i))

  module _ (few : m.depth ≤ 8) (t : recent_test m.depth m.frames m.recent ≡ true) (words : List ℕ) where
    bare-commit : (a : Act) → bare_done (commit m words a) ≡ commit (bare m) words (bare_act a)
    unfolding commit
    bare-commit stop = refl
    bare-commit (proceed a segment word pointers recent) = refl
    bare-commit (put p v recent) = by (check m access.Write p) ∙ ap (λ (x : Answer ℕ). x >>= stores) (bare-check m few m.recent t access.Write p)
      where
        next : List Register → Machine
        next recent = moved_to m m.registers.a m.registers.segment (m.registers.word + 1) m.pointers recent

        stores : ℕ → Answer Done
        stores i = ok (done (next []) (set words i v) proceeded)

        by : (x : Answer ℕ) → bare_done (x >>= (λ i. ok (done (next recent) (set words i v) proceeded))) ≡ (x >>= stores)
        by (refuse n) = refl
        by (ok i) = refl
    bare-commit (cross n) = refl

    pub bare-execute : bare_done (execute m words) ≡ execute (bare m) words
    unfolding execute fetch
    bare-execute =
        by (decide m (fetch m words) (read_word m words)) ∙ ap (λ (x : Answer Act). x >>= commit (bare m) words) (bare-decide (fetch m words) (read_word m words))
        ∙ ap (λ (read : Reader). decide (bare m) (fetch m words) read >>= commit (bare m) words) (bare-read m few t words)
      where
        by : (x : Answer Act) → bare_done (x >>= commit m words) ≡ (bare_acts x >>= commit (bare m) words)
        by (refuse n) = refl
        by (ok a) = bare-commit a

pub same_step : SameStep
same_step m words s = let f = sound-facts m s in bare-execute m f.frames.most f.recent words
