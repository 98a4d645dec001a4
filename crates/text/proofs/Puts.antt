-- Bytes put one after the other.
use Prim.Native.Nat.{ℕ, ◌+◌, ◌-◌, ◌<◌, ◌≤◌}
use native.Mathlib.Omega.{arith}
use mathlib.Core.Bool.{Bool, true, false}
use mathlib.Core.List.{List, ◌++◌}
use mathlib.Core.Path.{◌≡◌, refl, sym, ap, ◌∙◌}
use borrow.Author.Tests.{leb-true, leb-false, le-leb, lt-leb}
use lib.Dec.{leb}
use lib.ListN.{length, take, drop, replicate, length-append, length-replicate}
use lib.Seq.{length-take-le, take_all}
use borrow.Rule.Slice.PartMut.{put_mid}
use Rattle.std.proofs.lemmas.Slice.{put_mid-paste}
use Rattle.image_format.specs.Output.{written}
use Rattle.image_format.proofs.Written.{then-bytes, then-length}
use Rattle.text.specs.Put.{place_after, output_with, printed_in}

-- the bytes xs put from a place on, and the place after them
abbrev pub Puts : List ℕ → List ℕ → ℕ → ℕ → List ℕ → Type 0
Puts l m at next xs = (next ≡ at + length xs) × (m ≡ written l at xs)

pub puts-more : (l m n : List ℕ) (at k next : ℕ) (xs ys : List ℕ) → Puts l m at k xs → Puts m n k next ys → at + length xs ≤ length l → Puts l n at next (xs ++ ys)
puts-more l m n at k next xs ys p q h = (omega (arith, p.0, q.0, length-append xs ys), then-bytes l m xs at p.1 ys k q.1 h p.0)

pub puts-length : (l m : List ℕ) (at next : ℕ) (xs : List ℕ) → Puts l m at next xs → at + length xs ≤ length l → length m ≡ length l
puts-length l m at next xs p h = then-length l m xs at p.1 h

-- a part written over
pub part-written : (l xs : List ℕ) {ys : List ℕ} (at k : ℕ) → ys ≡ xs → k ≡ length xs → put_mid at k l ys ≡ written l at xs
unfolding written
part-written l xs {ys} at k e n =
    put_mid-paste at k l ys xs (length xs) e (sym n) refl ∙
    ap (λ (zs : List ℕ). take at l ++ zs ++ drop (at + length xs) l) (take_all (length xs) xs (omega arith))

-- the same where they have room, and nothing elsewhere
abbrev pub PutsWithin : List ℕ → List ℕ → ℕ → ℕ → List ℕ → Type 0
PutsWithin l m at next xs = (next ≡ place_after l at xs) × (m ≡ output_with l at xs)

module _ (l m : List ℕ) (at next : ℕ) (xs : List ℕ) where
  pub within-puts : at + length xs ≤ length l → PutsWithin l m at next xs → Puts l m at next xs
  unfolding place_after output_with
  within-puts h p = simp (le-leb (at + length xs) (length l) h) at p

  pub puts-within : at + length xs ≤ length l → Puts l m at next xs → PutsWithin l m at next xs
  unfolding place_after output_with
  puts-within h p = simp (le-leb (at + length xs) (length l) h) p

-- bytes with room after those that were put
pub puts_then : (l m n : List ℕ) (at k next : ℕ) (xs ys : List ℕ) → at + length (xs ++ ys) ≤ length l → Puts l m at k xs → PutsWithin m n k next ys → Puts l n at next (xs ++ ys)
puts_then l m n at k next xs ys h p q =
    let e = length-append xs ys in
    let f : at + length xs ≤ length l = omega arith in
    puts-more l m n at k next xs ys p (within-puts m n k next ys (omega (arith, p.0, puts-length l m at k xs p f)) q) f

-- no room
pub none_within : (l : List ℕ) (at : ℕ) (xs : List ℕ) → length l < at + length xs → PutsWithin l l at at xs
unfolding place_after output_with
none_within l at xs h = simp (lt-leb (at + length xs) (length l) h) (refl, refl)

-- what a test of the room says
pub room-left : (size at count : ℕ) → at ≤ size → leb count (size - at) ≡ leb (at + count) size
room-left size at count h = by (leb count (size - at)) refl
  where
    by : (t : Bool) → leb count (size - at) ≡ t → t ≡ leb (at + count) size
    by true e = sym (le-leb (at + count) size (omega (arith, leb-true count (size - at) e)))
    by false e = sym (lt-leb (at + count) size (omega (arith, leb-false count (size - at) e)))

pub room-is : (t : Bool) (k size : ℕ) → t ≡ leb k size → t ≡ true → k ≤ size
room-is t k size e h = leb-true k size (sym e ∙ h)

pub room-none : (t : Bool) (k size : ℕ) → t ≡ leb k size → t ≡ false → size < k
room-none t k size e h = leb-false k size (sym e ∙ h)

-- the length of what is printed is that of a part of the bytes
pub printed-counts : (size : ℕ) (xs bytes : List ℕ) (n : ℕ) → n ≤ size → n ≡ length xs → bytes ≡ printed_in size xs → (n ≤ length bytes) × (n ≡ length (take n bytes))
printed-counts size xs bytes n h l w =
    let zeros : List ℕ = replicate size 0 in
    let z : length zeros ≡ size = length-replicate {A = ℕ} size 0 in
    let r : length bytes ≡ size = then-length zeros bytes xs 0 w (omega arith) ∙ z in
    (omega arith, sym (length-take-le n bytes (omega arith)))
