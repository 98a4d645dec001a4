-- What a run and a step give, as a number, bytes and words.
use Rattle.std.specs.Prelude.{if◌then◌else◌, Ok, Err}
use Prim.Native.Nat.{ℕ, ◌+◌, ◌*◌}
use native.Mathlib.Omega.{arith}
use mathlib.Core.List.{List}
use mathlib.Core.Path.{◌≡◌, refl, ◌∙◌}
use lib.Dec.{eqb}
use Rattle.words.specs.Answer.{refuse, ok}
use Rattle.words.specs.Bit.{bit}
use Rattle.words.specs.Refusal.{number}
use Rattle.words.specs.declared.refusal.Refusal.{Refusal}
use Rattle.words.proofs.Results.{number-ne_0}
use Rattle.state.specs.declared.record.Machine.{Machine}
use Rattle.snapshot_format.specs.RecordForm.{with_record}
use Rattle.runs.specs.declared.outcome.End.{End}
use Rattle.runs.specs.declared.outcome.End.TheVariants as end
use Rattle.runs.specs.declared.outcome.Outcome.{Outcome}
use Rattle.runs.specs.Run.{Ran, ran, refused, end_by, end_answer, ran_answer}
use Rattle.processor.specs.declared.Pace.{Pace}
use Rattle.processor.specs.declared.Stepped.{Stepped}
use Rattle.processor.specs.Calls.{Step, step_call, halts, step_answer}
use Rattle.held_runs.specs.Opened.{opened}
use Rattle.held_runs.specs.Runs.{end_code, ended_with, ended_bytes, ran_on, ran_code, ran_bytes, ran_words, stepped_on, step_code, step_bytes, step_words}

module _ (call : Machine → List ℕ → Ran) (bytes words : List ℕ) where
  -- a number, a record and words are those of the call
  abbrev pub Ends : ℕ → List ℕ → List ℕ → Type 0
  Ends code after memory =
      (code ≡ ran_code (ran_on call bytes words)) × ((after ≡ ran_bytes bytes (ran_on call bytes words)) × (memory ≡ ran_words words (ran_on call bytes words)))

  pub run-refused : (n code : ℕ) → opened bytes ≡ refuse n → code ≡ end_code (refused n) + 0 → Ends code bytes words
  unfolding ran_on
  run-refused n code e c =
      let k : end_code (refused n) + 0 ≡ end_code (refused n) = omega arith in
      rw e (c ∙ k, (refl, refl))

  ended : (m : Machine) (r : Ran) → opened bytes ≡ ok m → r ≡ call m words → Ends (end_code r.ending + r.count) (ended_bytes bytes r.machine r.ending) r.words
  unfolding ran_on
  ended m r e q = rw e (rw q (refl, (refl, refl)))

  pub run-refused-of : (m : Machine) (n code : ℕ) → opened bytes ≡ ok m → ran m words 0 (refused n) ≡ call m words → code ≡ end_code (refused n) + 0 → Ends code bytes words
  run-refused-of m n code e q c = let t = ended m (ran m words 0 (refused n)) e q in (c ∙ t.0, t.1)

  pub run-ended : (m : Machine) (o : Outcome) (code : ℕ) (after memory : List ℕ) → opened bytes ≡ ok m → ran_answer o memory ≡ call m words
      → code ≡ end_code (end_answer o.end) + o.count → after ≡ ended_bytes bytes o.machine (end_answer o.end) → Ends code after memory
  run-ended m o code after memory e q c k = rw (c, k) (ended m (ran_answer o memory) e q)

-- what a run puts stands there where it was not refused
pub put : {A N : Type 0} (number : N → ℕ) (before after : A) (e : End N) → ((r : N) → e ≡ end.Refused r → ⊥) → ended_with before after (end_by number e) ≡ after
put number before after end.Halted h = refl
put number before after (end.Faulted r) h = refl
put number before after end.Spent h = refl
put number before after end.Crossed h = refl
put number before after (end.Refused r) h = absurd (h r refl)

module _ (call : Machine → List ℕ → Step) (bytes words : List ℕ) where
  -- the same of a step
  abbrev pub Steps : ℕ → List ℕ → List ℕ → Type 0
  Steps code after memory =
      (code ≡ step_code (stepped_on call bytes words)) × ((after ≡ step_bytes bytes (stepped_on call bytes words)) × (memory ≡ step_words words (stepped_on call bytes words)))

  pub step-refused : (n : ℕ) → opened bytes ≡ refuse n → Steps n bytes words
  unfolding stepped_on
  step-refused n e = rw e (refl, (refl, refl))

  step-ended : (m : Machine) (s : Step) → opened bytes ≡ ok m → s ≡ call m words
      → Steps (s.number + bit s.halted * 256) (if eqb s.number 0 then with_record bytes s.machine else bytes) s.words
  unfolding stepped_on
  step-ended m s e q = rw e (rw q (refl, (refl, refl)))

module _ (bytes words memory : List ℕ) (m : Machine) (s : Stepped) (e : opened bytes ≡ ok m) (q : step_answer s memory ≡ step_call m words) where
  pub step-faulted : (r : Refusal) → s.pace ≡ Err r → Steps step_call bytes words (number r) bytes memory
  step-faulted r h =
      let t = rw (h, number-ne_0 r) at (step-ended step_call bytes words m (step_answer s memory) e q) in
      let k : number r ≡ number r + 0 = omega arith in
      (k ∙ t.0, t.1)

  pub step-done : (p : Pace) → s.pace ≡ Ok p → Steps step_call bytes words (bit (halts (Ok p)) * 256) (with_record bytes s.machine) memory
  step-done p h =
      let t = rw h at (step-ended step_call bytes words m (step_answer s memory) e q) in
      let k : bit (halts (Ok p)) * 256 ≡ 0 + bit (halts (Ok p)) * 256 = omega arith in
      (k ∙ t.0, t.1)
