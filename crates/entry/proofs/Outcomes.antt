-- What an outcome tells about the run of an image.
use Prim.Native.Nat.{ℕ}
use native.Mathlib.Omega.{arith}
use mathlib.Core.List.{List}
use mathlib.Core.Path.{◌≡◌, refl, sym, ap, subst, ◌∙◌}
use Rattle.words.specs.Answer.{Answer, refuse, ok}
use Rattle.words.specs.Refusal.{number}
use Rattle.words.specs.declared.refusal.Refusal.{Refusal}
use Rattle.runs.specs.declared.outcome.End.{End}
use Rattle.runs.specs.declared.outcome.End.TheVariants as end
use Rattle.runs.specs.declared.outcome.Outcome.{Outcome}
use Rattle.runs.specs.Run.{Ending, halted, spent, crossed, faulted, refused, end_answer}
use Rattle.entry.specs.ImageRun.{Final, outcome_answer, image_run, closed}
use Rattle.entry.proofs.Endings.{Listed, image-ends}

abbrev is_refused : Ending → ℕ
is_refused halted = 0
is_refused spent = 0
is_refused crossed = 0
is_refused (faulted n) = 0
is_refused (refused n) = 1

-- an end that is not refused stands for no refusal
no-refusal : (e : End Refusal) (k : ℕ) → end_answer e ≡ refused k → ((r : Refusal) → e ≡ end.Refused r → ⊥) → ⊥
no-refusal end.Halted k q h = let z : ◌≡◌ {A = ℕ} 0 1 = ap is_refused q in omega (arith, z)
no-refusal (end.Faulted r) k q h = let z : ◌≡◌ {A = ℕ} 0 1 = ap is_refused q in omega (arith, z)
no-refusal end.Spent k q h = let z : ◌≡◌ {A = ℕ} 0 1 = ap is_refused q in omega (arith, z)
no-refusal end.Crossed k q h = let z : ◌≡◌ {A = ℕ} 0 1 = ap is_refused q in omega (arith, z)
no-refusal (end.Refused r) k q h = h r refl

abbrev ending : Final → Ending
ending r = r.ending

module _ (limit : ℕ) (bytes : List ℕ) (o : Outcome) where
  refused-by : (r : Refusal) (a : Answer Final) → image_run limit bytes ≡ a → outcome_answer o ≡ closed a → o.end ≡ end.Refused r → a ≡ refuse (number r)
  refused-by r (refuse k) e q h = let z : refused (number r) ≡ refused k = sym (ap end_answer h) ∙ ap ending q in ap refuse (let w : k ≡ number r = cc in w)
  refused-by r (ok x) e q h =
      absurd (subst Listed (let z : x.ending ≡ refused (number r) = sym (ap ending q) ∙ ap end_answer h in z) (image-ends limit bytes x e))

  passed-by : (a : Answer Final) → outcome_answer o ≡ closed a → ((r : Refusal) → o.end ≡ end.Refused r → ⊥) → a ≡ ok (outcome_answer o)
  passed-by (refuse k) q h = absurd (no-refusal o.end k (ap ending q) h)
  passed-by (ok x) q h = ap ok (sym q)

  module _ (q : outcome_answer o ≡ closed (image_run limit bytes)) where
    pub outcome-refused : (r : Refusal) → o.end ≡ end.Refused r → image_run limit bytes ≡ refuse (number r)
    outcome-refused r h = refused-by r (image_run limit bytes) refl q h

    pub outcome-passed : ((r : Refusal) → o.end ≡ end.Refused r → ⊥) → image_run limit bytes ≡ ok (outcome_answer o)
    outcome-passed h = passed-by (image_run limit bytes) q h
