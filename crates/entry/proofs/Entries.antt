-- What an outcome gives as a result.
use Prim.Native.Nat.{ℕ, ◌≤◌, ◌<◌}
use mathlib.Core.List.{List, ◌++◌}
use mathlib.Core.Path.{◌≡◌, refl, sym, ap, ◌∙◌}
use borrow.Author.Tests.{le-leb, lt-leb}
use lib.ListN.{length, drop}
use Rattle.words.specs.Answer.{Answer, refuse, ok, number_of}
use Rattle.image_format.specs.Bytes.{pair_bytes}
use Rattle.image_writer.specs.Writer.{output_after}
use Rattle.entry.specs.ImageRun.{Final, image_run}
use Rattle.entry.specs.Entry.{result_bytes, entry_of}

-- the number and the buffer that come of an answer
abbrev Gives : Answer (List ℕ) → List ℕ → ℕ → List ℕ → Type 0
Gives a result number after = (number ≡ number_of a) × (after ≡ output_after result a)

gives-refused : (a : Answer (List ℕ)) (result : List ℕ) (n : ℕ) → a ≡ refuse n → Gives a result n result
unfolding output_after
gives-refused a result n e = (sym (ap number_of e), sym (ap (output_after result) e))

gives-bytes : (a : Answer (List ℕ)) (result : List ℕ) (bytes after : List ℕ) → a ≡ ok bytes → after ≡ bytes ++ drop (length bytes) result → Gives a result 0 after
unfolding output_after
gives-bytes a result bytes after e w = (sym (ap number_of e), w ∙ sym (ap (output_after result) e))

result-size : (r : Final) → length (result_bytes r) ≡ 4
unfolding pair_bytes
result-size r = refl

module _ (image : List ℕ) (limit : ℕ) (result : List ℕ) where
  short-is : length result < 4 → entry_of image limit result ≡ refuse 8
  unfolding entry_of
  short-is h = simp (lt-leb 4 (length result) h)

  refused-is : 4 ≤ length result → (n : ℕ) → image_run limit image ≡ refuse n → entry_of image limit result ≡ refuse n
  unfolding entry_of
  refused-is h n e = simp (le-leb 4 (length result) h, e)

  passed_is : 4 ≤ length result → (r : Final) → image_run limit image ≡ ok r → entry_of image limit result ≡ ok (result_bytes r)
  unfolding entry_of
  passed_is h r e = simp (le-leb 4 (length result) h, e)

  pub entry-short : length result < 4 → Gives (entry_of image limit result) result 8 result
  entry-short h = gives-refused _ result 8 (short-is h)

  pub entry-refused : 4 ≤ length result → (n : ℕ) → image_run limit image ≡ refuse n → Gives (entry_of image limit result) result n result
  entry-refused h n e = gives-refused _ result n (refused-is h n e)

  pub entry-passed : 4 ≤ length result → (r : Final) (after : List ℕ) → image_run limit image ≡ ok r → after ≡ result_bytes r ++ drop 4 result
      → Gives (entry_of image limit result) result 0 after
  entry-passed h r after e w =
      gives-bytes _ result (result_bytes r) after (passed_is h r e) (w ∙ ap (λ (k : ℕ). result_bytes r ++ drop k result) (sym (result-size r)))
