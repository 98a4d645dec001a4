-- What a call does first: it opens the record that bytes hold, or is refused.
use Rattle.std.specs.Prelude.{if◌then◌else◌}
use Prim.Native.Nat.{ℕ}
use native.Mathlib.Omega.{arith}
use mathlib.Core.Bool.{Bool, true, false, ◌&&◌}
use mathlib.Core.List.{List}
use mathlib.Core.Path.{◌≡◌, refl, sym, ap, ◌∙◌}
use lib.Dec.{leb}
use lib.ListN.{length}
use Rattle.words.specs.Answer.{Answer, refuse, ok, ◌>>=◌, ◌>>◌, require, number_of}
use Rattle.words.specs.Refusal.{number}
use Rattle.words.specs.declared.refusal.Refusal.{Refusal}
use Rattle.words.proofs.Results.{number-some}
use Rattle.state.specs.declared.record.Machine.{Machine}
use Rattle.snapshot_format.specs.RecordForm.{record_form, record_in, held}
use Rattle.snapshot_reader.specs.Formed.{formed, record_or}
use Rattle.soundness.specs.Sound.{sound_test}
use Rattle.held_runs.specs.Opened.{opened}
use Rattle.held_runs.specs.Statements.{HeldOpened}

-- the two tests, and the record that is taken where the first is passed
abbrev judged : Bool → Bool → Answer (Unit {0})
judged long proper = require long 8 >> require proper 9

refusal : (long proper : Bool) (m : Machine) (e : Refusal) → number e ≡ number_of (judged long proper) → (judged long proper >> ok m) ≡ refuse (number e)
refusal true true m e q = absurd (number-some e q)
refusal true false m e q = ap refuse (sym q)
refusal false proper m e q = ap refuse (sym q)

taken : (long proper : Bool) (m none : Machine) → 0 ≡ number_of (judged long proper) → (judged long proper >> ok m) ≡ ok (if long then m else none)
taken true true m none q = refl
taken true false m none q = absurd (omega arith)
taken false proper m none q = absurd (omega arith)

module _ (bytes : List ℕ) where
  pub opened-refused : (e : Refusal) → number e ≡ number_of (formed bytes) → opened bytes ≡ refuse (number e)
  unfolding opened formed
  opened-refused e q = refusal (leb 1079 (length bytes)) (record_form.proper bytes 0) (record_in bytes) e q

  pub opened-ok : (m : Machine) → 0 ≡ number_of (formed bytes) → m ≡ record_or bytes → opened bytes ≡ ok m
  unfolding opened formed record_or
  opened-ok m q is = taken (leb 1079 (length bytes)) (record_form.proper bytes 0) (record_in bytes) _ q ∙ ap ok (sym is)

-- a record is judged on its bytes and then by itself, or both at once
at_once : (long proper : Bool) (test : Machine → Bool) (m : Machine)
    → (require long 8 >> require (proper && test m) 9 >> ok m) ≡ ((judged long proper >> ok m) >>= (λ (x : Machine). require (test x) 9 >> ok x))
at_once true true test m = refl
at_once true false test m = refl
at_once false proper test m = refl

pub held-opened : HeldOpened
unfolding held opened formed
held-opened bytes = at_once (leb 1079 (length bytes)) (record_form.proper bytes 0) sound_test (record_in bytes)
