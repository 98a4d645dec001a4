-- What is printed of an outcome.
use Prim.Native.Nat.{ℕ}
use mathlib.Core.List.{List, ◌++◌}
use mathlib.Core.Path.{◌≡◌, sym, ap, ◌∙◌}
use lib.ListN.{length}
use Rattle.words.specs.declared.refusal.Refusal.{Refusal}
use Rattle.runs.specs.declared.outcome.End.TheVariants as end
use Rattle.runs.specs.declared.outcome.Outcome.{Outcome}
use Rattle.entry.specs.ImageRun.{outcome_answer, image_run, closed}
use Rattle.entry.proofs.Outcomes.{outcome-refused, outcome-passed}
use Rattle.text.specs.Text.{line}
use Rattle.text.specs.Put.{printed_in}
use Rattle.report.specs.Report.{end_text, rest_text, answer_text, report_of, printed_of}
use Rattle.runs.specs.Run.{end_answer}

pub printed : (xs ys bytes : List ℕ) (n : ℕ) → xs ≡ ys → n ≡ length xs → bytes ≡ printed_in 96 xs → record { bytes = bytes; length = n } ≡ printed_of ys
printed xs ys bytes n e l w = (let z : record { bytes = bytes; length = n } ≡ printed_of xs = λ k. record { bytes = w k; length = l k } in z) ∙ ap printed_of e

module _ (image : List ℕ) (o : Outcome) (q : outcome_answer o ≡ closed (image_run 1000 image)) where
  pub report-refused : (r : Refusal) → o.end ≡ end.Refused r → line (end_text (end_answer o.end)) ≡ report_of image
  unfolding report_of
  report-refused r e = ap (λ x. line (end_text (end_answer x))) e ∙ sym (ap answer_text (outcome-refused 1000 image o q r e))

  pub report-passed : ((r : Refusal) → o.end ≡ end.Refused r → ⊥) → line (end_text (end_answer o.end)) ++ rest_text o.count o.machine.registers ≡ report_of image
  unfolding report_of
  report-passed h = sym (ap answer_text (outcome-passed 1000 image o q h))
