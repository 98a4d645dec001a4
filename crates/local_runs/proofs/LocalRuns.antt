-- The loop of a local run, against its definition.
use Prim.Native.Nat.{ℕ, suc, ◌+◌, ◌-◌, ◌<◌, ◌≤◌}
use native.Mathlib.Omega.{arith}
use mathlib.Core.List.{List}
use mathlib.Core.Path.{◌≡◌, refl, sym, ap, ◌∙◌}
use lib.ListN.{length, length-set}
use Rattle.words.specs.Answer.{Answer, refuse, ok}
use Rattle.words.specs.declared.pointer.Pointer.{Pointer}
use Rattle.state.specs.declared.record.Frame.{Frame}
use Rattle.state.specs.declared.record.Register.{Register}
use Rattle.state.specs.declared.record.Registers.{Registers}
use Rattle.references.specs.Reference.{reference_of}
use Rattle.references.specs.declared.flag.Access.TheVariants as access
use Rattle.instructions.specs.declared.cycle.Event.{Event}
use Rattle.instructions.specs.declared.cycle.Event.TheVariants as event
use Rattle.instructions.specs.Stages.{stage_of}
use Rattle.instructions.specs.Stages as stage
use Rattle.memory.specs.Reader.{stored, written_of}
use Rattle.instructions.specs.Plan.{Plan, halt, move, store, enter, leave}
use Rattle.instructions.specs.Cycle.{Progress, moved, event_answer, settled_words, planned, cycle_of, cycle_words, cycle_recent}
use Rattle.local_runs.specs.LocalRun.{Paused, paused, after_cycle, local_from}

-- an event at which a local run pauses
abbrev pub Stops : Event → Type 0
Stops event.Moved = ⊥
Stops (event.Pointed i p) = ⊥
Stops event.Halted = Unit {0}
Stops (event.Entering p) = Unit {0}
Stops (event.Leaving p q) = Unit {0}
Stops (event.Faulted f) = Unit {0}

pub stops : (e : Event) → (e ≡ event.Moved → ⊥) → ((i : ℕ) (p : Pointer) → e ≡ event.Pointed i p → ⊥) → Stops e
stops event.Moved m o = m refl
stops (event.Pointed i p) m o = o i p refl
stops event.Halted m o = tt
stops (event.Entering p) m o = tt
stops (event.Leaving p q) m o = tt
stops (event.Faulted f) m o = tt

stored-length : (words : List ℕ) (v : ℕ) (i : Answer ℕ) → length (stored words v i) ≡ length words
stored-length words v (refuse n) = refl
stored-length words v (ok i) = length-set words i v

module _ (lengths gates rights stacks bases : List ℕ) (depth : ℕ) (frame : Frame) where
  settled-length : (words : List ℕ) (recent : List Register) (r : Registers) (pointers : List Pointer) (plan : Answer Plan) → length (settled_words lengths rights bases words recent depth frame r pointers plan) ≡ length words
  unfolding written_of
  settled-length words recent r pointers (refuse n) = refl
  settled-length words recent r pointers (ok halt) = refl
  settled-length words recent r pointers (ok (move a s w ps)) = refl
  settled-length words recent r pointers (ok (store p v)) = stored-length words v (reference_of lengths rights bases r.domain recent depth frame access.Write p)
  settled-length words recent r pointers (ok (enter p)) = refl
  settled-length words recent r pointers (ok (leave p)) = refl

  -- an instruction keeps the length of the memory
  pub cycle-length : (words : List ℕ) (recent : List Register) (r : Registers) (pointers : List Pointer) → length (cycle_words lengths gates rights stacks bases words recent depth frame r pointers) ≡ length words
  unfolding cycle_words
  cycle-length words recent r pointers = settled-length words recent r pointers (planned lengths gates rights stacks bases words recent depth frame r pointers)

  -- a local run has come to registers, pointers and words after n instructions
  pub record Local (limit from : ℕ) (r₀ : Registers) (ps₀ : List Pointer) (words₀ : List ℕ) (recent₀ : List Register) (n : ℕ) (r : Registers) (ps : List Pointer) (words : List ℕ) (recent : List Register) : Type 0 where
    pub same : length words ≡ length words₀
    pub rest : local_from lengths gates rights stacks bases depth frame (limit - from) from r₀ ps₀ words₀ recent₀ ≡ local_from lengths gates rights stacks bases depth frame (limit - n) n r ps words recent

  pub starts : (limit from : ℕ) (r : Registers) (ps : List Pointer) (words : List ℕ) (recent : List Register) → Local limit from r ps words recent from r ps words recent
  starts limit from r ps words recent = record { same = refl; rest = refl }

  module _ (limit from : ℕ) (r₀ : Registers) (ps₀ : List Pointer) (words₀ : List ℕ) (recent₀ : List Register) (n : ℕ) (r : Registers) (ps : List Pointer) (words : List ℕ) (recent : List Register)
      (l : Local limit from r₀ ps₀ words₀ recent₀ n r ps words recent) where
    abbrev whole : Paused
    whole = local_from lengths gates rights stacks bases depth frame (limit - from) from r₀ ps₀ words₀ recent₀

    abbrev after : List ℕ
    after = cycle_words lengths gates rights stacks bases words recent depth frame r ps

    abbrev renewal : List Register
    renewal = cycle_recent lengths gates rights stacks bases words recent depth frame r ps

    abbrev cycle : Answer Progress
    cycle = cycle_of lengths gates rights stacks bases words recent depth frame r ps

    pub spent : limit ≤ n → whole ≡ paused r ps words recent n stage.Moved
    unfolding local_from
    spent h = l.rest ∙ ap (λ (k : ℕ). local_from lengths gates rights stacks bases depth frame k n r ps words recent) (let z : limit - n ≡ 0 = omega arith in z)

    module _ (less : n < limit) where
      next : whole ≡ after_cycle (local_from lengths gates rights stacks bases depth frame (limit - (n + 1)) (n + 1)) n r ps after renewal cycle
      unfolding local_from
      next = l.rest ∙ ap (λ (k : ℕ). local_from lengths gates rights stacks bases depth frame k n r ps words recent) (let z : limit - n ≡ suc (limit - (n + 1)) = omega arith in z)

      -- an instruction that moves on
      pub goes : (s : Registers) (qs : List Pointer) (now : List ℕ) (new : List Register) → cycle ≡ ok (moved s qs) → now ≡ after → new ≡ renewal → Local limit from r₀ ps₀ words₀ recent₀ (n + 1) s qs now new
      goes s qs now new m w v =
          record {
            same = ap length w ∙ cycle-length words recent r ps ∙ l.same;
            rest = next ∙ rw m refl ∙ (λ i. local_from lengths gates rights stacks bases depth frame (limit - (n + 1)) (n + 1) s qs (sym w i) (sym v i));
          }

      -- an instruction that does not
      pub pauses : (s : Registers) (e : Event) → event_answer s ps e ≡ cycle → Stops e → whole ≡ paused r ps after renewal n (stage_of e)
      pauses s e h stops = next ∙ ap (after_cycle (local_from lengths gates rights stacks bases depth frame (limit - (n + 1)) (n + 1)) n r ps after renewal) (sym h) ∙ by e stops
        where
          by : (x : Event) → Stops x
              → after_cycle (local_from lengths gates rights stacks bases depth frame (limit - (n + 1)) (n + 1)) n r ps after renewal (event_answer s ps x) ≡ paused r ps after renewal n (stage_of x)
          by event.Moved o = absurd o
          by (event.Pointed i p) o = absurd o
          by event.Halted o = refl
          by (event.Entering p) o = refl
          by (event.Leaving p q) o = refl
          by (event.Faulted f) o = refl
