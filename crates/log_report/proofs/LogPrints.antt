-- What is printed of an image's crossings.
use Prim.Native.Nat.{ℕ, ◌+◌, ◌≤◌}
use native.Mathlib.Omega.{arith}
use mathlib.Core.List.{List, ◌++◌}
use mathlib.Core.Path.{◌≡◌, sym, ap, ◌∙◌}
use lib.ListN.{length}
use Rattle.words.specs.Answer.{Answer, refuse, ok, number_of}
use Rattle.image_format.proofs.Answers.{no_value, the_value}
use Rattle.image_format.specs.Bytes.{joined}
use Rattle.crossing_log.specs.Crossings.{Crossing}
use Rattle.log_theorems.proofs.Crossings.{log-totals}
use Rattle.text.specs.Text.{text, labelled, line}
use Rattle.text.specs.Put.{printed_in}
use Rattle.log_report.specs.LogText.{crossing_line, totals_text, image_crossings, crossings_text, log_report_of, log_printed_of}
use Rattle.log_theorems.specs.ReadBack.{records_in}
use Rattle.log_report.specs.Private.{totals_in, totals_of, log_with}
use Rattle.log_report.specs.declared.image_log.Totals.{Totals}
use Rattle.log_theorems.proofs.LogBack.{records-back}
use Rattle.log_report.proofs.ImageLogs.{image-few, totals-passed}

pub log-printed : (xs ys bytes : List ℕ) (n : ℕ) → xs ≡ ys → n ≡ length xs → bytes ≡ printed_in 25026 xs → record { bytes = bytes; length = n } ≡ log_printed_of ys
log-printed xs ys bytes n e l w = (let z : record { bytes = bytes; length = n } ≡ log_printed_of xs = λ k. record { bytes = w k; length = l k } in z) ∙ ap log_printed_of e

refused-by : (a : Answer (List Crossing)) (n : ℕ) → refuse n ≡ totals_of a → line (labelled (text "refused ") n) ≡ crossings_text a
refused-by (refuse k) n e = ap (λ (j : ℕ). line (labelled (text "refused ") j)) (ap number_of e)
refused-by (ok cs) n e = no_value e

module _ (image : List ℕ) where
  -- a refused image
  pub prints-refused : (n : ℕ) → refuse n ≡ totals_of (image_crossings image) → line (labelled (text "refused ") n) ≡ log_report_of image
  unfolding log_report_of
  prints-refused n e = refused-by (image_crossings image) n e

  -- an accepted image: its log has at most 1,000 crossings, and gives the text
  module _ (t : Totals) (e : ok t ≡ totals_of (image_crossings image)) (log₀ log : List ℕ) (w : log ≡ log_with log₀ (image_crossings image)) where
    cs : List Crossing
    cs = (totals-passed (image_crossings image) t e).value

    is : image_crossings image ≡ ok cs
    unfolding cs
    is = (totals-passed (image_crossings image) t e).is

    totals-are : t ≡ totals_in cs
    totals-are = the_value (e ∙ ap totals_of is)

    count-is : t.calls + t.returns ≡ length cs
    count-is = ap (λ (x : Totals). x.calls + x.returns) totals-are ∙ log-totals cs

    pub prints-few : t.calls + t.returns ≤ 1000
    prints-few = omega (arith, count-is, (image-few image cs is).most)

    records-are : records_in (t.calls + t.returns) log ≡ cs
    records-are =
        (λ j. records_in (count-is j) ((w ∙ ap (log_with log₀) is) j)) ∙ records-back log₀ cs (image-few image cs is).small

    pub prints-log : joined crossing_line (records_in (t.calls + t.returns) log) ++ totals_text t.calls t.returns ≡ log_report_of image
    unfolding log_report_of
    prints-log =
        (λ j. joined crossing_line (records-are j) ++ totals_text (totals-are j).calls (totals-are j).returns) ∙ sym (ap crossings_text is)
