-- Registers that fit a machine's frames: an instruction goes on with such, for any reader.
use Prim.Native.Nat.{ℕ, ◌≤◌}
use mathlib.Core.Bool.{true}
use mathlib.Core.List.{List}
use mathlib.Core.Path.{◌≡◌}
use Rattle.words.specs.Answer.{Answer, ok, ◌>>=◌}
use Rattle.words.specs.InstructionWord.{instruction_of}
use Rattle.words.specs.declared.pointer.Pointer.{Pointer}
use Rattle.state.specs.declared.record.Register.{Register}
use Rattle.state.specs.declared.record.Machine.{Machine}
use Rattle.recent.specs.SoundRegisters.{recent_test}
use Rattle.soundness.specs.Sound.{sound_test}
use Rattle.soundness.proofs.Facts.{sound-facts}
use Rattle.memory.specs.Reader.{Reader}
use Rattle.instructions.specs.Plan.{Plan, halt, move, store, enter, leave}
use Rattle.crossings.specs.Crossing.{enter_of, leave_of}
use Rattle.runs.specs.Step.{Act, stop, proceed, put, cross, resolve, recent_after, decide}
use Rattle.executions.proofs.Parts.{planned}
use Rattle.executions.proofs.Says.{Says, says_then}
use Rattle.executions.proofs.RecentKept.{after-recent}

abbrev pub Fits : Machine → List Register → Type 0
Fits m rs = recent_test m.depth m.frames rs ≡ true

-- what is used of a sound record where a reference goes through its registers
pub record Fit (m : Machine) : Type 0 where
  pub few : m.depth ≤ 8
  pub recent : Fits m m.recent

pub sound-fit : (m : Machine) → sound_test m ≡ true → Fit m
sound-fit m e = let s = sound-facts m e in record { few = s.frames.most; recent = s.recent }

-- what an act goes on with fits
abbrev pub GoesFit : Machine → Act → Type 0
GoesFit m stop = Unit {0}
GoesFit m (proceed a s w ps rs) = Fits m rs
GoesFit m (put p v rs) = Fits m rs
GoesFit m (cross n) = Unit {0}

module _ (m : Machine) (read : Reader) (rs : List Register) (q : Pointer) (t : Fits m rs) where
  resolve-fits : (plan : Plan) → Says (GoesFit m) (resolve m read rs q plan)
  resolve-fits halt = tt
  resolve-fits (move a s w ps) = t
  resolve-fits (store p v) = t
  resolve-fits (enter p) = says_then (GoesFit m) (enter_of m read p) (λ n. ok (cross n)) (λ n. tt)
  resolve-fits (leave p) = says_then (GoesFit m) (leave_of m q p) (λ n. ok (cross n)) (λ n. tt)

pub decide-fits : (m : Machine) → Fit m → (fetched : Answer ℕ) (read : Reader) → Says (GoesFit m) (decide m fetched read)
unfolding decide
decide-fits m f fetched read =
    let i = fetched >>= instruction_of in
    says_then (GoesFit m) (planned m fetched read) _ (resolve-fits m read (recent_after m read i) _ (after-recent m f.few f.recent read i))
