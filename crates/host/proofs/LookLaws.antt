-- What the check of a reference and the question for a segment answer.
use Prim.Native.Nat.{ℕ, ◌+◌, ◌-◌, ◌<◌, ◌≤◌}
use native.Mathlib.Omega.{arith}
use mathlib.Core.List.{List}
use mathlib.Core.Path.{◌≡◌, refl, ap, ◌∙◌}
use lib.ListN.{get_or}
use Rattle.words.specs.Answer.{Answer, refuse, ok, ◌>>=◌, ◌>>◌, number_of}
use Rattle.words.specs.Refusal.{number}
use Rattle.words.specs.declared.refusal.Refusal.{Refusal}
use Rattle.words.proofs.Results.{number-some}
use Rattle.state.specs.declared.record.Machine.{Machine}
use Rattle.record_checks.specs.Judged.{judged_check}
use Rattle.record_checks.proofs.Judged.{judged-lt}
use Rattle.segments.specs.Segment.{segment_check, part_start, part_size}
use Rattle.segments.proofs.Parts.{Given, starts, sized}
use Rattle.state.specs.Bases.{base_of}
use Rattle.held_runs.specs.Opened.{opened}
use Rattle.host.specs.Looks.{access_of, pointer_to, checked_on, segment_on}

module _ (bytes : List ℕ) (write tag segment word : ℕ) where
  pub check-refused : (n : ℕ) → opened bytes ≡ refuse n → refuse n ≡ checked_on bytes write tag segment word
  unfolding checked_on
  check-refused n e = rw e refl

  pub check-made : (m : Machine) (a : Answer ℕ) → opened bytes ≡ ok m → a ≡ judged_check m (access_of write) (pointer_to tag segment word) → a ≡ checked_on bytes write tag segment word
  unfolding checked_on
  check-made m a e q = rw e q

  -- an index is below 8,192
  pub checked-lt : (i : ℕ) → checked_on bytes write tag segment word ≡ ok i → i < 8192
  unfolding checked_on
  checked-lt i e = by (opened bytes) e
    where
      by : (a : Answer Machine) → (a >>= (λ m. judged_check m (access_of write) (pointer_to tag segment word))) ≡ ok i → i < 8192
      by (refuse n) e = absurd (let z : ◌≡◌ {A = ℕ} 0 1 = cc in omega arith)
      by (ok m) e = judged-lt m _ _ i e

-- the answer to the question for a segment
module _ (bytes : List ℕ) (size segment : ℕ) where
  pub place-refused : (n : ℕ) → opened bytes ≡ refuse n → refuse n ≡ segment_on bytes size segment
  unfolding segment_on
  place-refused n e = rw e refl

  refusing : (a : Answer (Unit {0})) (s : ℕ × ℕ) (e : Refusal) → number e ≡ number_of a → refuse (number e) ≡ (a >> ok s)
  refusing (refuse n) s e h = ap refuse h
  refusing (ok u) s e h = absurd (number-some e h)

  pub place-judged : (m : Machine) (r : Refusal) → opened bytes ≡ ok m → number r ≡ number_of (segment_check m size segment) → refuse (number r) ≡ segment_on bytes size segment
  unfolding segment_on
  place-judged m r e q = rw e (refusing (segment_check m size segment) _ r q)

  pub place-made : (m : Machine) (from to : ℕ) → opened bytes ≡ ok m → Given m size segment → from ≡ part_start m size segment → to ≡ part_start m size segment + part_size m size segment
      → ok (from, to - from) ≡ segment_on bytes size segment
  unfolding segment_on
  place-made m from to e g p q =
      let b : to - from ≡ get_or m.layout.lengths segment 0 = omega (arith, p, q, sized m size segment g) in
      let s : from ≡ base_of m.layout.lengths segment = p ∙ starts m size segment g in
      rw (e, g.accepted) (λ j. ok (s j, b j))

-- where a segment begins and ends, below 8,193
pub bounds : (m : Machine) (size segment from to : ℕ) → Given m size segment → from ≡ part_start m size segment → to ≡ part_start m size segment + part_size m size segment → (from ≤ to) × (to ≤ 8192)
bounds m size segment from to g p q = (omega (arith, p, q), omega (arith, p, q, starts m size segment g, sized m size segment g, g.within))
