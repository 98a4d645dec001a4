-- Different recency numbers, at most 15, stay so by a match and by an entry.
use Rattle.std.specs.Prelude.{if◌then◌else◌}
use Prim.Native.Nat.{ℕ, zero, suc, ◌-◌, ◌<◌, ◌≤◌}
use native.Mathlib.Omega.{arith}
use mathlib.Core.Bool.{Bool, true, false, not}
use mathlib.Core.List.{List, [], ◌∷◌, map}
use mathlib.Core.Path.{◌≡◌, refl, sym, ap, ◌∙◌}
use borrow.Author.Tests.{eqb-true, eqb-false, leb-true, le-leb, ltb-true, ltb-false, lt-ltb, eq-eqb, ne_eqb}
use lib.Dec.{eqb, leb, ltb}
use lib.ListN.{length, get_or}
use Rattle.state.specs.declared.record.Capability.{Capability}
use Rattle.state.specs.declared.record.Register.{Register}
use Rattle.state.specs.Record.{no_register}
use Rattle.recent.specs.Registers.{register, numbered, risen, touched, entered_in, with_entry}
use Rattle.recent.specs.SoundRegisters.{absent, numbers_test}
use Rattle.recent.proofs.Logic.{never, both, join, strict}

-- a fact of every register
abbrev pub Every : (Register → Type 0) → List Register → Type 0
Every P [] = Unit {0}
Every P (r ∷ rs) = P r × Every P rs

pub every-at : (P : Register → Type 0) (rs : List Register) → Every P rs → (i : ℕ) → i < length rs → P (get_or rs i no_register)
every-at P [] e i l = absurd (omega (arith, l))
every-at P (r ∷ rs) e zero l = e.0
every-at P (r ∷ rs) e (suc i) l = every-at P rs e.1 i (omega (arith, l))

-- another number
abbrev pub Other : ℕ → Register → Type 0
Other n r = r.recency ≡ n → ⊥

-- different numbers, at most 15
abbrev pub Numbers : List Register → Type 0
Numbers [] = Unit {0}
Numbers (r ∷ rs) = (r.recency ≤ 15) × (Every (Other r.recency) rs) × Numbers rs

absent-is : (n : ℕ) (rs : List Register) → absent n rs ≡ true → Every (Other n) rs
unfolding absent
absent-is n [] e = tt
absent-is n (r ∷ rs) e = let b = both (not (eqb r.recency n)) _ e in ((λ q. never (sym (ap not (eq-eqb r.recency n q)) ∙ b.0)), absent-is n rs b.1)

is-absent : (n : ℕ) (rs : List Register) → Every (Other n) rs → absent n rs ≡ true
unfolding absent
is-absent n [] e = refl
is-absent n (r ∷ rs) e = join (ap not (ne_eqb r.recency n e.0)) (is-absent n rs e.1)

-- the test says it, and the other way
pub numbers-are : (rs : List Register) → numbers_test rs ≡ true → Numbers rs
unfolding numbers_test
numbers-are [] e = tt
numbers-are (r ∷ rs) e =
    let b = both (leb r.recency 15) _ e in
    let c = both (absent r.recency rs) _ b.1 in
    (leb-true r.recency 15 b.0, absent-is r.recency rs c.0, numbers-are rs c.1)

pub are-numbers : (rs : List Register) → Numbers rs → numbers_test rs ≡ true
unfolding numbers_test
are-numbers [] e = refl
are-numbers (r ∷ rs) e = join (le-leb r.recency 15 e.0) (join (is-absent r.recency rs e.1) (are-numbers rs e.2))

-- registers numbered anew, so that different numbers give different numbers
module _ (f : Register → Register) (P : Register → Type 0) (apart : (r s : Register) → P r → P s → (r.recency ≡ s.recency → ⊥) → (f r).recency ≡ (f s).recency → ⊥)
    (few : (r : Register) → P r → (f r).recency ≤ 15) where
  others : (r : Register) → P r → (rs : List Register) → Every P rs → Every (Other r.recency) rs → Every (Other (f r).recency) (map f rs)
  others r p [] e o = tt
  others r p (s ∷ rs) e o = ((λ q. apart s r e.0 p o.0 q), others r p rs e.1 o.1)

  pub renumbered : (rs : List Register) → Every P rs → Numbers rs → Numbers (map f rs)
  renumbered [] e n = tt
  renumbered (r ∷ rs) e n = (few r e.0, others r e.0 rs e.1 n.1, renumbered rs e.1 n.2)

pub bounded : (rs : List Register) → Numbers rs → Every (λ r. r.recency ≤ 15) rs
bounded [] n = tt
bounded (r ∷ rs) n = (n.0, bounded rs n.2)

-- a match: three cases of a number
module _ (old : ℕ) (h : old ≤ 15) where
  data Rises (n : ℕ) : ℕ → Type 0 where
    up : n ≡ old → Rises n 15
    down : old < n → Rises n (n - 1)
    stays : n < old → Rises n n

  rises : (n : ℕ) → Rises n (risen old n)
  unfolding risen
  rises n = by (eqb n old) refl (ltb old n) refl
    where
      by : (t : Bool) → eqb n old ≡ t → (u : Bool) → ltb old n ≡ u → Rises n (if t then 15 else (if u then n - 1 else n))
      by true e u f = up (eqb-true _ _ e)
      by false e true f = down (ltb-true _ _ f)
      by false e false f = stays (strict n old (ltb-false old n f) (eqb-false n old e))

  risen-le : (n x : ℕ) → n ≤ 15 → Rises n x → x ≤ 15
  risen-le n x l (up e) = omega arith
  risen-le n x l (down e) = omega (arith, l)
  risen-le n x l (stays e) = l

  risen-apart : (n k x : ℕ) → n ≤ 15 → k ≤ 15 → (n ≡ k → ⊥) → Rises n x → Rises k x → ⊥
  risen-apart n k x ln lk ne a b = by a b refl
    where
      by : {x y : ℕ} → Rises n x → Rises k y → x ≡ y → ⊥
      by (up e) (up f) q = ne (e ∙ sym f)
      by (up e) (down f) q = omega (arith, f, lk, q)
      by (up e) (stays f) q = omega (arith, f, h, q)
      by (down e) (up f) q = omega (arith, e, ln, q)
      by (down e) (down f) q = ne (omega (arith, e, f, q))
      by (down e) (stays f) q = omega (arith, e, f, q)
      by (stays e) (up f) q = omega (arith, e, h, q)
      by (stays e) (down f) q = omega (arith, e, f, q)
      by (stays e) (stays f) q = ne q

  pub touched-numbers : (rs : List Register) → Numbers rs → Numbers (touched old rs)
  unfolding touched
  touched-numbers rs n = by (eqb old 15)
    where
      by : (t : Bool) → Numbers (if t then rs else map (λ r. numbered r (risen old r.recency)) rs)
      by true = n
      by false =
          renumbered (λ r. numbered r (risen old r.recency)) (λ r. r.recency ≤ 15)
          (λ r s p q ne e. risen-apart r.recency s.recency (risen old r.recency) p q ne (rises r.recency) (rw e (rises s.recency)))
          (λ r p. risen-le r.recency (risen old r.recency) p (rises r.recency))
          rs (bounded rs n) n

-- an entry: the numbers are those of a match at 0
entry-risen : (c : Capability) (frame : ℕ) (r : Register) → (entered_in c frame r).recency ≡ risen 0 r.recency
unfolding risen
entry-risen c frame r = by r.recency refl
  where
    by : (n : ℕ) → r.recency ≡ n → (if eqb n 0 then register c frame 15 else numbered r (n - 1)).recency ≡ (if eqb n 0 then 15 else (if ltb 0 n then n - 1 else n))
    by zero e = refl
    by (suc n) e = rw (ne_eqb (suc n) 0 (λ q. omega (arith, q)), lt-ltb 0 (suc n) (omega arith))

pub entered-numbers : (c : Capability) (frame : ℕ) (rs : List Register) → Numbers rs → Numbers (with_entry c frame rs)
unfolding with_entry
entered-numbers c frame rs n =
    renumbered (entered_in c frame) (λ r. r.recency ≤ 15)
    (λ r s p q ne e.
    risen-apart 0 (omega arith) r.recency s.recency (risen 0 r.recency) p q ne (rises 0 (omega arith) r.recency)
    (rw (sym (entry-risen c frame r) ∙ e ∙ entry-risen c frame s) (rises 0 (omega arith) s.recency)))
    (λ r p. rw (entry-risen c frame r) (risen-le 0 (omega arith) r.recency (risen 0 r.recency) p (rises 0 (omega arith) r.recency)))
    rs (bounded rs n) n
