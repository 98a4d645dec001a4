-- A step and a run leave a sound machine sound.
use Prim.Native.Nat.{ℕ, ◌+◌}
use native.Mathlib.Omega.{arith}
use mathlib.Core.List.{List}
use mathlib.Core.Path.{◌≡◌}
use Rattle.words.specs.Answer.{ok, ◌>>=◌}
use Rattle.words.specs.InstructionWord.{instruction_of}
use Rattle.words.specs.declared.pointer.Pointer.{Pointer}
use Rattle.state.specs.declared.record.Register.{Register}
use Rattle.state.specs.declared.record.Machine.{Machine}
use Rattle.state.specs.Bases.{bases_of}
use Rattle.soundness.proofs.Facts.{Sound, sound-facts, facts-sound}
use Rattle.references.specs.declared.flag.Flag.TheVariants as flag
use Rattle.references.specs.declared.flag.Access.TheVariants as access
use Rattle.references.specs.Static.{static_of}
use Rattle.references.specs.Reference.{index_of, accept, locate_of}
use Rattle.references.specs.Check.{check}
use Rattle.references.proofs.Passes.{static-exists, exists-facts}
use Rattle.memory.specs.Reader.{Reader, read_word, fetch, fetch_of}
use Rattle.instructions.specs.Plan.{Plan, halt, move, store, enter, leave}
use Rattle.crossings.specs.Crossing.{enter_of, leave_of}
use Rattle.runs.specs.Step.{Act, stop, proceed, put, cross, Done, moved_to, resolve, recent_after, decide, commit, execute}
use Rattle.executions.proofs.Says.{Says, said, says-bind, says_then, says-accept}
use Rattle.executions.proofs.Runs.{run-keeps}
use Rattle.executions.proofs.Plans.{Placed, PlanSound, plan-sound}
use Rattle.executions.proofs.RecentKept.{after-recent}
use Rattle.executions.proofs.Fit.{Fits}
use Rattle.executions.proofs.Crossings.{Whole, stack-most, enter-whole, leave-whole}
use Rattle.executions.specs.Statements.{SoundRecord, StepSound, RunSound, planned_by, indirect_by}

module _ (m : Machine) (w : Whole m) where
  abbrev s : Sound m
  s = w.sound

  abbrev r-segment : ℕ
  r-segment = m.registers.segment

  abbrev r-word : ℕ
  r-word = m.registers.word

  -- after a fetch the location can move one word on
  abbrev On : Type 0
  On = Placed r-segment (r-word + 1) m.pointers

  fetch-on : (words : List ℕ) → Says (λ x. On) (fetch m words)
  unfolding fetch fetch_of locate_of
  fetch-on words =
      says-bind (λ i. On) (λ x. On) (accept verdict (index_of (bases_of m.layout.lengths) r-segment r-word)) _ (says-accept (λ i. On) verdict _ on) (λ i h. h)
    where
      verdict : ℕ
      verdict = static_of m.layout.lengths m.layout.rights m.registers.domain flag.Execute r-segment r-word

      on : verdict ≡ 0 → On
      on e =
          let f = exists-facts m.layout.lengths r-segment r-word (static-exists _ _ _ flag.Execute r-segment r-word e) in
          record { segment = s.registers.segment; word = omega (arith, f.1, s.layout.lengths r-segment f.0); pointers = s.pointers }

  -- the record moved on to a place
  moved-whole : (a segment word : ℕ) (ps : List Pointer) (rs : List Register) → Placed segment word ps → Fits m rs → Whole (moved_to m a segment word ps rs)
  moved-whole a segment word ps rs p t =
      record {
        sound = record {
          layout = s.layout;
          gates = s.gates;
          registers = record { domain = s.registers.domain; segment = p.segment; word = p.word };
          pointers = p.pointers;
          frames = s.frames;
          recent = t;
        };
        room = w.room;
      }

  abbrev ActSound : Act → Type 0
  ActSound stop = Unit {0}
  ActSound (proceed a segment word ps rs) = Placed segment word ps × Fits m rs
  ActSound (put p v rs) = On × Fits m rs
  ActSound (cross n) = Whole n

  abbrev pub Planned : Plan → Type 0
  Planned = PlanSound m.layout.lengths m.layout.gates m.layout.rights m.layout.stacks m.depth m.registers m.pointers

  resolve-sound : (read : Reader) (rs : List Register) (q : Pointer) → Fits m rs → (plan : Plan) → Planned plan → Says ActSound (resolve m read rs q plan)
  resolve-sound read rs q t halt h = tt
  resolve-sound read rs q t (move a segment word ps) h = (h, t)
  resolve-sound read rs q t (store p v) h = (h, t)
  resolve-sound read rs q t (enter p) h = says-bind Whole ActSound (enter_of m read p) (λ n. ok (cross n)) (enter-whole m w read p h.sound h.free) (λ n x. x)
  resolve-sound read rs q t (leave p) h = says-bind Whole ActSound (leave_of m q p) (λ n. ok (cross n)) (leave-whole m w q p) (λ n x. x)

  pub planned-sound : (words : List ℕ) → Says Planned (planned_by m words)
  planned-sound words =
      plan-sound m.layout.lengths m.layout.gates m.layout.rights m.layout.stacks m.depth m.registers m.pointers
      s.layout.lengths (stack-most m.layout s.layout m.registers.domain) s.pointers (read_word m words) (fetch m words) (fetch-on words)

  decide-sound : (words : List ℕ) → Says ActSound (decide m (fetch m words) (read_word m words))
  unfolding decide
  decide-sound words =
      let i = fetch m words >>= instruction_of in
      says-bind Planned ActSound (planned_by m words) (resolve m (read_word m words) (recent_after m (read_word m words) i) (indirect_by m words)) (planned-sound words)
      (resolve-sound (read_word m words) _ _ (after-recent m s.frames.most s.recent (read_word m words) i))

  abbrev WholeDone : Done → Type 0
  WholeDone d = Whole d.machine

  commit-sound : (words : List ℕ) (a : Act) → ActSound a → Says WholeDone (commit m words a)
  unfolding commit
  commit-sound words stop h = w
  commit-sound words (proceed a segment word ps rs) h = moved-whole a segment word ps rs h.0 h.1
  commit-sound words (put p v rs) h =
      says_then WholeDone (check m access.Write p) _ (λ i. moved-whole m.registers.a r-segment (r-word + 1) m.pointers rs h.0 h.1)
  commit-sound words (cross n) h = h

  step-whole : (words : List ℕ) (d : Done) → execute m words ≡ ok d → Whole d.machine
  unfolding execute
  step-whole words d e =
      said WholeDone _ d
      (says-bind ActSound WholeDone (decide m (fetch m words) (read_word m words)) (commit m words) (decide-sound words) (commit-sound words)) e

good : (m : Machine) → Whole m → SoundRecord m
good m w = (facts-sound m w.sound, w.room)

pub whole : (m : Machine) → SoundRecord m → Whole m
whole m g = record { sound = sound-facts m g.0; room = g.1 }

pub step-sound : StepSound
step-sound m words s d e = good d.machine (step-whole m (whole m s) words d e)

pub run_sound : RunSound
run_sound m words s stretch k n = good _ (run-keeps (λ x now. Whole x) (λ x now d q h. step-whole x h now d q) stretch k n m words (whole m s))
