-- Sixteen registers after a match, an entry and a return.
use Rattle.std.specs.Prelude.{if◌then◌else◌}
use Prim.Native.Nat.{ℕ, zero, suc, ◌-◌, ◌<◌, ◌≤◌}
use native.Mathlib.Omega.{arith}
use mathlib.Core.Bool.{Bool, true, false}
use mathlib.Core.List.{List, [], ◌∷◌, map}
use mathlib.Core.Path.{◌≡◌, refl, sym, ap, ◌∙◌}
use borrow.Author.Tests.{eqb-true, eq-eqb, ne_eqb, lt-ltb, le-ltb}
use lib.Dec.{eqb, ltb}
use lib.ListN.{length}
use Rattle.state.specs.declared.record.Capability.{Capability}
use Rattle.state.specs.declared.record.Register.{Register}
use Rattle.state.specs.Record.{no_capability}
use Rattle.recent.specs.Registers.{register, numbered, risen, touched, entered_in, with_entry, cleared_in, cleared}
use Rattle.recent.specs.Statements.{Sixteen, register_in, EachNumber, MatchOrder, EntryOrder, is_of, comes_before, ReturnOrder}
use Rattle.recent.proofs.Numbers.{Numbers, every-at, numbers-are, are-numbers, bounded, touched-numbers, entered-numbers}
use Rattle.recent.proofs.Most.{number-found}
use Rattle.recent.proofs.Ranks.{order-before, Stands, stand, ranks-order, cleared-numbers}
use Rattle.recent.proofs.Lengths.{touched-length, entered-length, cleared-length}

mapped_at : (f : Register → Register) (rs : List Register) (i : ℕ) → i < length rs → register_in (map f rs) i ≡ f (register_in rs i)
mapped_at f [] i l = absurd (omega (arith, l))
mapped_at f (r ∷ rs) zero l = refl
mapped_at f (r ∷ rs) (suc i) l = mapped_at f rs i (omega (arith, l))

pub each_number : EachNumber
each_number rs s n h = number-found rs (numbers-are rs s.1) s.0 n h

module _ (rs : List Register) (s : Sixteen rs) where
  numbers : Numbers rs
  numbers = numbers-are rs s.1

  within : (i : ℕ) → i < 16 → i < length rs
  within i h = let l = s.0 in omega (arith, l, h)

  number-le : (i : ℕ) → i < 16 → (register_in rs i).recency ≤ 15
  number-le i h = every-at (λ r. r.recency ≤ 15) rs (bounded rs numbers) i (within i h)

  sixteen-of : (after : List Register) → length after ≡ length rs → Numbers after → Sixteen after
  sixteen-of after l n = (l ∙ s.0, are-numbers after n)

-- a match, for each register
risen-fifteen : (n : ℕ) → n ≤ 15 → risen 15 n ≡ n
unfolding risen
risen-fifteen n h = by (eqb n 15) refl
  where
    by : (t : Bool) → eqb n 15 ≡ t → (if t then 15 else (if ltb 15 n then n - 1 else n)) ≡ n
    by true e = sym (eqb-true n 15 e)
    by false e = rw (le-ltb 15 n h)

module _ (rs : List Register) (s : Sixteen rs) (old : ℕ) where
  touched-at : (i : ℕ) → i < 16 → register_in (touched old rs) i ≡ numbered (register_in rs i) (risen old (register_in rs i).recency)
  unfolding touched
  touched-at i h = by (eqb old 15) refl
    where
      by : (t : Bool) → eqb old 15 ≡ t
          → register_in (if t then rs else map (λ r. numbered r (risen old r.recency)) rs) i ≡ numbered (register_in rs i) (risen old (register_in rs i).recency)
      by true e = rw (eqb-true old 15 e, risen-fifteen (register_in rs i).recency (number-le rs s i h)) refl
      by false e = mapped_at (λ r. numbered r (risen old r.recency)) rs i (within rs s i h)

  number_at : (i : ℕ) → i < 16 → (register_in (touched old rs) i).recency ≡ risen old (register_in rs i).recency
  number_at i h = ap (λ (r : Register). r.recency) (touched-at i h)

risen-same : (old : ℕ) → risen old old ≡ 15
unfolding risen
risen-same old = rw (eq-eqb old old refl)

risen-above : (old n : ℕ) → old < n → risen old n ≡ n - 1
unfolding risen
risen-above old n l = rw (ne_eqb n old (λ e. omega (arith, e, l)), lt-ltb old n l)

risen-below : (old n : ℕ) → n < old → risen old n ≡ n
unfolding risen
risen-below old n l = rw (ne_eqb n old (λ e. omega (arith, e, l)), le-ltb old n (omega (arith, l)))

pub match-order : MatchOrder
match-order rs s k h =
    let old = (register_in rs k).recency in
    record {
      sixteen = sixteen-of rs s (touched old rs) (touched-length old rs) (touched-numbers old (number-le rs s k h) rs (numbers rs s));
      highest = number_at rs s old k h ∙ risen-same old;
      falls = λ i l above. number_at rs s old i l ∙ risen-above old _ above;
      stays = λ i l below. number_at rs s old i l ∙ risen-below old _ below;
      kept = λ i l. touched-at rs s old i l ∙ ap (numbered (register_in rs i)) (sym (number_at rs s old i l));
    }

-- an entry, for each register
module _ (rs : List Register) (s : Sixteen rs) (c : Capability) (frame : ℕ) where
  entered_at : (i : ℕ) → i < 16 → register_in (with_entry c frame rs) i ≡ entered_in c frame (register_in rs i)
  unfolding with_entry
  entered_at i h = mapped_at (entered_in c frame) rs i (within rs s i h)

  at_zero : (i : ℕ) → i < 16 → (register_in rs i).recency ≡ 0 → register_in (with_entry c frame rs) i ≡ register c frame 15
  at_zero i h e = entered_at i h ∙ rw (eq-eqb (register_in rs i).recency 0 e)

  at_other : (i : ℕ) → i < 16 → 0 < (register_in rs i).recency → register_in (with_entry c frame rs) i ≡ numbered (register_in rs i) ((register_in rs i).recency - 1)
  at_other i h l = entered_at i h ∙ rw (ne_eqb (register_in rs i).recency 0 (λ e. omega (arith, e, l)))

pub entry-order : EntryOrder
entry-order rs s c frame =
    let z = each_number rs s 0 (omega arith) in
    record {
      sixteen = sixteen-of rs s (with_entry c frame rs) (entered-length c frame rs) (entered-numbers c frame rs (numbers rs s));
      replaced = (z.0, z.1, z.2, at_zero rs s c frame z.0 z.1 z.2);
      falls = at_other rs s c frame;
    }

-- a return, for each register
module _ (rs : List Register) (s : Sixteen rs) (frame : ℕ) where
  cleared_at : (i : ℕ) → i < 16 → register_in (cleared frame rs) i ≡ cleared_in frame rs (register_in rs i)
  unfolding cleared
  cleared_at i h = mapped_at (cleared_in frame rs) rs i (within rs s i h)

  stands_at : (i : ℕ) → i < 16 → Stands frame rs (register_in rs i)
  stands_at i h = every-at (Stands frame rs) rs (stand frame rs) i (within rs s i h)

  ranked : (i j : ℕ) → i < 16 → j < 16
      → ltb (register_in (cleared frame rs) i).recency (register_in (cleared frame rs) j).recency ≡ comes_before frame (register_in rs i) (register_in rs j)
  ranked i j h k =
      rw (cleared_at i h, cleared_at j k)
      (ranks-order frame rs (register_in rs i) (register_in rs j) (stands_at i h) (stands_at j k) ∙ order-before frame (register_in rs i) (register_in rs j) (number-le rs s i h) (number-le rs s j k))

  -- the frame's, and the others
  of-frame : (i : ℕ) → i < 16 → is_of frame (register_in rs i) ≡ true
      → register_in (cleared frame rs) i ≡ register no_capability 0 (register_in (cleared frame rs) i).recency
  of-frame i h e = rw (cleared_at i h, e) refl

  of-another : (i : ℕ) → i < 16 → is_of frame (register_in rs i) ≡ false
      → register_in (cleared frame rs) i ≡ numbered (register_in rs i) (register_in (cleared frame rs) i).recency
  of-another i h e = rw (cleared_at i h, e) refl

pub return-order : ReturnOrder
return-order rs s frame =
    record {
      sixteen = sixteen-of rs s (cleared frame rs) (cleared-length frame rs) (cleared-numbers frame rs (numbers rs s));
      order = ranked rs s frame;
      emptied = of-frame rs s frame;
      kept = of-another rs s frame;
    }
