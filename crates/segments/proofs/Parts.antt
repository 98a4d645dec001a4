-- What is known of a segment that the host gets.
use Prim.Native.Nat.{ℕ, ◌+◌, ◌-◌, ◌<◌, ◌≤◌}
use native.Mathlib.Omega.{arith}
use mathlib.Core.Bool.{Bool, true, false}
use mathlib.Core.List.{List}
use mathlib.Core.Path.{◌≡◌, refl, sym, ap, ◌∙◌}
use borrow.Author.Tests.{leb-true, ltb-true}
use lib.Dec.{leb, ltb}
use lib.ListN.{length, get_or, take, drop, length-take, length-drop}
use Rattle.std.specs.Prelude.{Result, Ok, Err}
use Rattle.std.specs.Result.{is_err}
use Rattle.words.specs.declared.refusal.Refusal.{Refusal}
use Rattle.words.specs.Refusal.{answer_of}
use Rattle.words.specs.Answer.{Answer, ok, ◌>>◌, require, number_of}
use Rattle.state.specs.declared.record.Machine.{Machine}
use Rattle.state.specs.Bases.{base_of}
use Rattle.state.proofs.Sums.{base-apart}
use Rattle.soundness.specs.Sound.{sound_test}
use Rattle.soundness.proofs.Facts.{sound-facts}
use Rattle.segments.specs.Segment.{segment_check, part_start, part_size, segment_part, word_place}

pub record Given (m : Machine) (size number : ℕ) : Type 0 where
  pub accepted : segment_check m size number ≡ ok tt
  pub row : number < 16
  pub short : get_or m.layout.lengths number 0 ≤ 4096
  pub within : base_of m.layout.lengths number + get_or m.layout.lengths number 0 ≤ 8192
  pub room : base_of m.layout.lengths number + get_or m.layout.lengths number 0 ≤ size

-- three tests that are passed
abbrev checked : Bool → Bool → Bool → Answer (Unit {0})
checked a b c = require a 9 >> require b 7 >> require c 21

passed : (a b c : Bool) → number_of (checked a b c) ≡ 0 → (a ≡ true) × ((b ≡ true) × (c ≡ true))
passed false b c e = absurd (omega arith)
passed true false c e = absurd (omega arith)
passed true true false e = absurd (omega arith)
passed true true true e = (refl, (refl, refl))

pub given : (m : Machine) (size number n : ℕ) → n ≡ number_of (segment_check m size number) → n ≡ 0 → Given m size number
unfolding segment_check
given m size number n q z =
    let t = passed (sound_test m) (leb 8192 size) (ltb number m.layout.segments) (sym q ∙ z) in
    let s = (sound-facts m t.0).layout in
    let l : 8192 ≤ size = leb-true _ _ t.1.0 in
    let k : number < m.layout.segments = ltb-true _ _ t.1.1 in
    let h : number < 16 = omega (arith, s.segments) in
    let w : base_of m.layout.lengths number + get_or m.layout.lengths number 0 ≤ 8192 = omega (arith, s.words, base-apart m.layout.lengths number 16 h) in
    record {
      accepted = simp (t.0, t.1.0, t.1.1);
      row = h;
      short = s.lengths number h;
      within = w;
      room = omega (arith, w, l);
    }

module _ (m : Machine) (size number : ℕ) where
  -- what the code's judgement says of a part: refused it is empty, at the memory's start
  pub none : (r : Result (Unit {0}) Refusal) → answer_of r ≡ segment_check m size number → is_err r ≡ true
      → (part_start m size number ≡ 0) × (part_size m size number ≡ 0)
  none (Ok u) a e = absurd (cc)
  none (Err x) a e = rw (← a) (refl, refl)

  pub some : (r : Result (Unit {0}) Refusal) → answer_of r ≡ segment_check m size number → is_err r ≡ false → Given m size number
  some (Ok u) a e = given m size number 0 (ap number_of a) refl
  some (Err x) a e = absurd (cc)

  module _ (g : Given m size number) where
    pub starts : part_start m size number ≡ base_of m.layout.lengths number
    starts = rw g.accepted

    pub sized : part_size m size number ≡ get_or m.layout.lengths number 0
    sized = rw g.accepted

-- a part that is given has as many words as the segment
pub part_length : (m : Machine) (words : List ℕ) (number : ℕ) → Given m (length words) number → length (segment_part m words number) ≡ get_or m.layout.lengths number 0
part_length m words number g = rw (length-take, length-drop, starts m (length words) number g, sized m (length words) number g) (omega (arith, g.room))

-- the words between the bounds of a segment are its part, and lie at its place
pub part : (m : Machine) (words : List ℕ) (number from to : ℕ) → (from ≡ part_start m (length words) number) × (to ≡ part_start m (length words) number + part_size m (length words) number)
    → (start : ℕ × ℕ) → (take (to - from) (drop from words) ≡ segment_part m words number) × (word_place start from ≡ word_place start (part_start m (length words) number))
part m words number from to e start = rw (e.0, e.1, back (part_start m (length words) number) (part_size m (length words) number)) (refl, refl)
  where
    back : (a b : ℕ) → a + b - a ≡ b
    back a b = omega arith
