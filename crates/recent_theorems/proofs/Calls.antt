-- The calls on a sound record answer as on the same record with no registers.
use Rattle.std.specs.Prelude.{if◌then◌else◌}
use Prim.Native.Nat.{ℕ}
use mathlib.Core.Bool.{Bool, true, false}
use mathlib.Core.List.{List, []}
use mathlib.Core.Path.{◌≡◌, refl, sym, ap, ◌∙◌}
use lib.Dec.{eqb, leb}
use lib.ListN.{length}
use Rattle.words.specs.Answer.{Answer, refuse, ok}
use Rattle.state.specs.declared.record.Frame.{Frame}
use Rattle.state.specs.declared.record.Machine.{Machine}
use Rattle.recent.specs.SoundRegisters.{numbers_test, contents_test, recent_test}
use Rattle.soundness.specs.Sound.{sound_test}
use Rattle.soundness.proofs.Facts.{sound-facts, facts-sound}
use Rattle.runs.specs.Step.{Done, execute}
use Rattle.runs.specs.Run.{Ran, ran, refused, judged, called_of}
use Rattle.processor.specs.Calls.{run_of, stretch_of, stepped, run_call, stretch_call, step_call}
use Rattle.recent_theorems.specs.Statements.{bare, bare_done, bare_ran, bare_step, SameRunCall, SameStretchCall, SameStepCall}
use Rattle.recent_theorems.proofs.Steps.{same_step}
use Rattle.recent_theorems.proofs.Runs.{same-run}

no-recent : (depth : ℕ) (fs : List Frame) → recent_test depth fs [] ≡ true
unfolding recent_test numbers_test contents_test
no-recent depth fs = refl

module _ (m : Machine) (words : List ℕ) (s : sound_test m ≡ true) where
  -- without registers a sound record is sound
  bare-sound : sound_test (bare m) ≡ true
  bare-sound =
      let f = sound-facts m s in
      facts-sound (bare m)
      (record { layout = f.layout; gates = f.gates; registers = f.registers; pointers = f.pointers; frames = f.frames; recent = no-recent m.depth m.frames })

  -- so it is judged the same
  bare-judged : judged (bare m) words ≡ judged m words
  unfolding judged
  bare-judged = ap (λ (t : Bool). if t then (if leb 8192 (length words) then 0 else 7) else 9) (bare-sound ∙ sym s)

  same-called : (run : Machine → List ℕ → Ran) → bare_ran (run m words) ≡ run (bare m) words → bare_ran (called_of run m words) ≡ called_of run (bare m) words
  unfolding called_of
  same-called run h = rw bare-judged (by (eqb (judged m words) 0))
    where
      by : (t : Bool) → bare_ran (if t then run m words else ran m words 0 (refused (judged m words))) ≡ (if t then run (bare m) words else ran (bare m) words 0 (refused (judged m words)))
      by true = h
      by false = refl

  same-stepped : (x y : Answer Done) → bare_done x ≡ y → bare_step (stepped m words x) ≡ stepped (bare m) words y
  same-stepped x y h = by x ∙ ap (stepped (bare m) words) h
    where
      by : (x : Answer Done) → bare_step (stepped m words x) ≡ stepped (bare m) words (bare_done x)
      by (refuse n) = refl
      by (ok d) = refl

pub same-run-call : SameRunCall
unfolding run_call
same-run-call m words s room limit = same-called m words s (run_of limit) (same-run m words s room false limit 0)

pub same-stretch-call : SameStretchCall
unfolding stretch_call
same-stretch-call m words s room limit = same-called m words s (stretch_of limit) (same-run m words s room true limit 0)

pub same-step-call : SameStepCall
unfolding step_call
same-step-call m words s =
    rw (bare-judged m words s)
    (same-stepped m words s (if eqb (judged m words) 0 then execute m words else refuse (judged m words)) (if eqb (judged m words) 0 then execute (bare m) words else refuse (judged m words))
    (by (eqb (judged m words) 0)))
  where
    by : (t : Bool) → bare_done (if t then execute m words else refuse (judged m words)) ≡ (if t then execute (bare m) words else refuse (judged m words))
    by true = same_step m words s
    by false = refl
