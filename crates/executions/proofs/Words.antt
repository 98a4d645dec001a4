-- A run keeps the layout, the number of words, and the words past the last segment.
use Prim.Native.Nat.{ℕ, ◌≤◌}
use native.Mathlib.Omega.{arith}
use mathlib.Core.Bool.{Bool}
use mathlib.Core.List.{List}
use mathlib.Core.Path.{◌≡◌, refl, ap, ◌∙◌}
use lib.ListN.{length, get_or, set, length-set}
use lib.Seq.{get_or-set_other}
use Rattle.words.specs.Answer.{ok}
use Rattle.words.specs.declared.pointer.Pointer.{Pointer}
use Rattle.state.specs.declared.record.Layout.{Layout}
use Rattle.state.specs.declared.record.Machine.{Machine}
use Rattle.state.specs.Bases.{words_in}
use Rattle.references.specs.declared.flag.Access.TheVariants as access
use Rattle.references.specs.Check.{check}
use Rattle.references.proofs.Places.{check-lt}
use Rattle.memory.specs.Reader.{Reader, read_word, fetch}
use Rattle.crossings.specs.Crossing.{enter_of, leave_of, entered, left}
use Rattle.runs.specs.Step.{Act, stop, proceed, put, cross, Done, decide, commit, execute}
use Rattle.runs.specs.Run.{run_from}
use Rattle.executions.proofs.Parts.{live, frame_for, leave_number}
use Rattle.executions.proofs.Says.{Says, itself, said, says-bind, says_then, says-accept}
use Rattle.executions.proofs.Acts.{CrossesTo, decide-crosses}
use Rattle.executions.proofs.Runs.{run-keeps}
use Rattle.executions.specs.Statements.{RunLayout, RunLength, RunPast}

-- a record and words that came of those of a start
pub record Came (l : Layout) (words : List ℕ) (n : Machine) (now : List ℕ) : Type 0 where
  pub layout : n.layout ≡ l
  pub room : length now ≡ length words
  pub past : (i : ℕ) → words_in l.lengths ≤ i → get_or now i 0 ≡ get_or words i 0

-- a crossing keeps the layout
module _ (m : Machine) where
  abbrev Same : Machine → Type 0
  Same n = n.layout ≡ m.layout

  enter-same : (read : Reader) (p : Pointer) → Says Same (enter_of m read p)
  unfolding enter_of entered
  enter-same read p = says_then Same (frame_for m read) (λ f. ok (entered m p f)) (λ f. refl)

  leave_same : (q p : Pointer) → Says Same (leave_of m q p)
  unfolding leave_of left
  leave_same q p = says-accept Same (leave_number m p) (left m q p (live m)) (λ _. refl)

-- a step from a record and words that came of a start
module _ (l : Layout) (words : List ℕ) (m : Machine) (now : List ℕ) (h : Came l words m now) where
  abbrev CameBy : Done → Type 0
  CameBy d = Came l words d.machine d.words

  stored-came : (n : Machine) → n.layout ≡ m.layout → (p : Pointer) (v i : ℕ) → check m access.Write p ≡ ok i → Came l words n (set now i v)
  stored-came n same p v i e = record {
    layout = same ∙ h.layout;
    room = length-set now i v ∙ h.room;
    past = λ j b. get_or-set_other now i j v 0 (apart j b) ∙ h.past j b;
  }
    where
      apart : (j : ℕ) → words_in l.lengths ≤ j → j ≡ i → ⊥
      apart j b q =
          let z : words_in m.layout.lengths ≡ words_in l.lengths = ap (λ (x : Layout). words_in x.lengths) h.layout in
          omega (arith, check-lt m access.Write p i e)

  commit-came : (a : Act) → CrossesTo (Same m) a → Says CameBy (commit m now a)
  unfolding commit
  commit-came stop s = h
  commit-came (proceed a s w ps rs) _ = record { layout = h.layout; room = h.room; past = h.past }
  commit-came (put p v rs) _ =
      says-bind (λ i. check m access.Write p ≡ ok i) CameBy (check m access.Write p) _ (itself (check m access.Write p))
      (λ i e. stored-came _ refl p v i e)
  commit-came (cross n) s = record { layout = s ∙ h.layout; room = h.room; past = h.past }

  step-came : (d : Done) → execute m now ≡ ok d → CameBy d
  unfolding execute
  step-came d e =
      said CameBy _ d
      (says-bind (CrossesTo (Same m)) CameBy (decide m (fetch m now) (read_word m now)) (commit m now)
      (decide-crosses m (Same m) (fetch m now) (read_word m now) (λ p e. enter-same m (read_word m now) p) (λ p e. leave_same m _ p)) commit-came) e

pub step-length : (m : Machine) (words : List ℕ) (d : Done) → execute m words ≡ ok d → length d.words ≡ length words
step-length m words d e = (step-came m.layout words m words (record { layout = refl; room = refl; past = λ i l. refl }) d e).room

run-came : (stretch : Bool) (k n : ℕ) (m : Machine) (words : List ℕ)
    → Came m.layout words (run_from stretch k n m words).machine (run_from stretch k n m words).words
run-came stretch k n m words =
    run-keeps (Came m.layout words) (λ x now d e h. step-came m.layout words x now h d e) stretch k n m words
    (record { layout = refl; room = refl; past = λ i l. refl })

pub run-layout : RunLayout
run-layout stretch k n m words = (run-came stretch k n m words).layout

pub run_length : RunLength
run_length stretch k n m words = (run-came stretch k n m words).room

pub run_past : RunPast
run_past stretch k n m words i l = (run-came stretch k n m words).past i l
