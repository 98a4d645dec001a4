-- The lines of a log.
use Prim.Native.Nat.{ℕ, zero, suc, ◌+◌, ◌*◌, ◌<◌, ◌≤◌}
use native.Mathlib.Omega.{arith}
use mathlib.Core.List.{List, [], ◌∷◌, ◌++◌, append_assoc}
use mathlib.Core.Path.{◌≡◌, sym, ap, ◌∙◌, subst}
use lib.ListN.{length, get_or, length-append}
use Rattle.image_format.specs.Bytes.{joined}
use Rattle.image_format.specs.Image.{rows_from}
use Rattle.crossing_log.specs.Crossings.{Kind, call, return, Crossing}
use Rattle.text.specs.Text.{text, decimal, labelled, line}
use Rattle.text.proofs.Decimals.{size-most, line-size}
use Rattle.text.proofs.Puts.{Puts, PutsWithin, within-puts, puts_then}
use Rattle.log_report.specs.LogText.{kind_text, crossing_line, totals_text}
use Rattle.log_theorems.specs.ReadBack.{crossing_at}

-- a byte has at most three digits, a pair five
byte-digits : (n : ℕ) → n < 256 → length (decimal n) ≤ 3
byte-digits n h = size-most 2 n (omega arith)

pair-digits : (n : ℕ) → n < 65536 → length (decimal n) ≤ 5
pair-digits n h = size-most 4 n (omega arith)

kind-most : (k : Kind) → length (kind_text k) ≤ 7
kind-most call = omega arith
kind-most return = omega arith

-- a blank and a number
abbrev blank : ℕ → List ℕ
blank = labelled (32 ∷ [])

module _ (c : Crossing) where
  abbrev first : List ℕ
  first = labelled (kind_text c.kind) c.left

  abbrev front : List ℕ
  front = first ++ blank c.entered ++ blank c.segment

  in_two : crossing_line c ≡ front ++ line (blank c.word)
  unfolding crossing_line
  in_two = append_assoc front (blank c.word) (10 ∷ [])

  two_size : length (front ++ line (blank c.word)) ≡ length front + length (line (blank c.word))
  two_size = length-append front (line (blank c.word))

  front-size : length front ≡ length (first ++ blank c.entered) + length (blank c.segment)
  front-size = length-append (first ++ blank c.entered) (blank c.segment)

  first-size : length (first ++ blank c.entered) ≡ length first + length (blank c.entered)
  first-size = length-append first (blank c.entered)

  -- it has at most 25 bytes
  pub crossing_most : c.left < 256 → c.entered < 256 → c.segment < 256 → c.word < 65536 → length (crossing_line c) ≤ 25
  crossing_most l e s w =
      omega (arith, ap length in_two, two_size, front-size, first-size, line-size (32 ∷ []) c.word, length-append (kind_text c.kind) (decimal c.left), length-append (32 ∷ []) (decimal c.entered), length-append (32 ∷ []) (decimal c.segment), kind-most c.kind, byte-digits c.left l, byte-digits c.entered e, byte-digits c.segment s, pair-digits c.word w)

  -- it is put in four pieces
  pub crossing-puts : (l m₁ m₂ m₃ m₄ : List ℕ) (at n₁ n₂ n₃ n₄ : ℕ) → at + length (crossing_line c) ≤ length l
      → PutsWithin l m₁ at n₁ first → PutsWithin m₁ m₂ n₁ n₂ (blank c.entered) → PutsWithin m₂ m₃ n₂ n₃ (blank c.segment) → PutsWithin m₃ m₄ n₃ n₄ (line (blank c.word))
      → Puts l m₄ at n₄ (crossing_line c)
  crossing-puts l m₁ m₂ m₃ m₄ at n₁ n₂ n₃ n₄ h p q r s =
      let room : at + length (front ++ line (blank c.word)) ≤ length l = omega (arith, h, ap length in_two) in
      let one = within-puts l m₁ at n₁ first (omega (arith, room, two_size, front-size, first-size)) p in
      let two = puts_then l m₁ m₂ at n₁ n₂ first (blank c.entered) (omega (arith, room, two_size, front-size)) one q in
      let three = puts_then l m₂ m₃ at n₂ n₃ (first ++ blank c.entered) (blank c.segment) (omega (arith, room, two_size)) two r in
      subst (λ (xs : List ℕ). Puts l m₄ at n₄ xs) (sym in_two) (puts_then l m₃ m₄ at n₃ n₄ front (line (blank c.word)) room three s)

-- the lines of a log's crossings have at most 25 bytes each
module _ (log : List ℕ) (bytes : (i : ℕ) → get_or log i 0 < 256) where
  pub at_most : (at : ℕ) → length (crossing_line (crossing_at log at)) ≤ 25
  at_most at = crossing_most (crossing_at log at) (bytes (at + 1)) (bytes (at + 2)) (bytes (at + 3)) (omega (arith, bytes (at + 4), bytes (at + 5)))

  pub lines-most : (i n : ℕ) → length (joined crossing_line (rows_from (λ i. crossing_at log (i * 6)) i n)) ≤ n * 25
  unfolding joined rows_from
  lines-most i zero = omega arith
  lines-most i (suc n) =
      omega (arith, lines-most (i + 1) n, at_most (i * 6), length-append (crossing_line (crossing_at log (i * 6))) (joined crossing_line (rows_from (λ i. crossing_at log (i * 6)) (i + 1) n)))

-- the totals
module _ (calls returns : ℕ) where
  abbrev pub calls-text : List ℕ
  calls-text = labelled (text "calls ") calls

  abbrev pub returns-text : List ℕ
  returns-text = line (labelled (text " returns ") returns)

  totals-two : totals_text calls returns ≡ calls-text ++ returns-text
  unfolding totals_text
  totals-two = append_assoc calls-text (labelled (text " returns ") returns) (10 ∷ [])

  totals-size : length (totals_text calls returns) ≡ length calls-text + length returns-text
  totals-size = ap length totals-two ∙ length-append calls-text returns-text

  pub totals-most : calls < 65536 → returns < 65536 → length (totals_text calls returns) ≤ 26
  totals-most h k =
      omega (arith, totals-size, length-append (text "calls ") (decimal calls), line-size (text " returns ") returns, pair-digits calls h, pair-digits returns k)

  pub totals-puts : (l m n : List ℕ) (at k next : ℕ) → at + length (totals_text calls returns) ≤ length l
      → PutsWithin l m at k calls-text → PutsWithin m n k next returns-text → Puts l n at next (totals_text calls returns)
  totals-puts l m n at k next h p q =
      let room : at + length (calls-text ++ returns-text) ≤ length l = omega (arith, h, ap length totals-two) in
      let one = within-puts l m at k calls-text (omega (arith, h, totals-size)) p in
      subst (λ (xs : List ℕ). Puts l n at next xs) (sym totals-two) (puts_then l m n at k next calls-text returns-text room one q)
