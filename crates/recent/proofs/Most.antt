-- At most sixteen registers have different numbers up to 15, and of sixteen one has each.
use Prim.Native.Nat.{ℕ, zero, suc, ◌+◌, ◌-◌, ◌<◌, ◌≤◌}
use native.Mathlib.Omega.{arith}
use mathlib.Core.Bool.{Bool, true, false}
use mathlib.Core.List.{List, [], ◌∷◌}
use mathlib.Core.Path.{◌≡◌, refl, sym}
use borrow.Author.Tests.{eqb-true, eqb-false, ltb-true, ltb-false, lt-ltb, le-ltb}
use lib.Dec.{eqb, ltb}
use lib.ListN.{length, get_or}
use Rattle.words.specs.Bit.{bit}
use Rattle.state.specs.declared.record.Register.{Register}
use Rattle.state.specs.Record.{no_register}
use Rattle.recent.proofs.Logic.{strict}
use Rattle.recent.proofs.Numbers.{Every, Other, Numbers}

pub bit_le : (t : Bool) → bit t ≤ 1
bit_le true = omega arith
bit_le false = omega arith

-- how many have a number below k
abbrev below : ℕ → List Register → ℕ
below k [] = 0
below k (r ∷ rs) = bit (ltb r.recency k) + below k rs

below-zero : (rs : List Register) → below 0 rs ≡ 0
below-zero [] = refl
below-zero (r ∷ rs) = rw (le-ltb r.recency 0 (omega arith), below-zero rs) (omega arith)

same_bit : (n k : ℕ) → (n ≡ k → ⊥) → bit (ltb n (suc k)) ≡ bit (ltb n k)
same_bit n k ne = by (ltb n k) refl
  where
    by : (t : Bool) → ltb n k ≡ t → bit (ltb n (suc k)) ≡ bit t
    by true e = rw (lt-ltb n (suc k) (let l = ltb-true n k e in omega (arith, l)))
    by false e = rw (le-ltb n (suc k) (strict k n (ltb-false n k e) (λ q. ne (sym q))))

-- from k to k + 1 there is at most one more: none if no register has the number k
below_other : (k : ℕ) (rs : List Register) → Every (Other k) rs → below (suc k) rs ≡ below k rs
below_other k [] e = refl
below_other k (r ∷ rs) e = rw (same_bit r.recency k e.0, below_other k rs e.1)

below_step : (k : ℕ) (rs : List Register) → Numbers rs → below (suc k) rs ≤ below k rs + 1
below_step k [] n = omega arith
below_step k (r ∷ rs) n = by (eqb r.recency k) refl (below_step k rs n.2)
  where
    by : (t : Bool) → eqb r.recency k ≡ t → below (suc k) rs ≤ below k rs + 1 → below (suc k) (r ∷ rs) ≤ below k (r ∷ rs) + 1
    by true e h =
        let o : below (suc k) rs ≡ below k rs = below_other k rs (rw (sym (eqb-true r.recency k e)) n.1) in
        let b = bit_le (ltb r.recency (suc k)) in
        omega (arith, o, b)
    by false e h = let b = same_bit r.recency k (eqb-false r.recency k e) in omega (arith, b, h)

below-le : (k : ℕ) (rs : List Register) → Numbers rs → below k rs ≤ k
below-le zero rs n = let z = below-zero rs in omega (arith, z)
below-le (suc k) rs n = let a = below_step k rs n in let b = below-le k rs n in omega (arith, a, b)

below_all : (rs : List Register) → Numbers rs → below 16 rs ≡ length rs
below_all [] n = refl
below_all (r ∷ rs) n = rw (lt-ltb r.recency 16 (let l = n.0 in omega (arith, l)), below_all rs n.2) (omega arith)

pub at_most : (rs : List Register) → Numbers rs → length rs ≤ 16
at_most rs n = let a = below-le 16 rs n in let b = below_all rs n in omega (arith, a, b)

-- one more for each number up to 16, so never more than one to a number
below_last : (k j : ℕ) (rs : List Register) → Numbers rs → below (k + j) rs ≤ below k rs + j
below_last k zero rs n = let e : k + 0 ≡ k = omega arith in rw e (omega arith)
below_last k (suc j) rs n =
    let e : k + suc j ≡ suc (k + j) = omega arith in
    let a = below_step (k + j) rs n in
    let b = below_last k j rs n in
    rw e (omega (arith, a, b))

-- sixteen registers lack no number up to 15
pub none-lacks : (rs : List Register) → Numbers rs → length rs ≡ 16 → (k : ℕ) → k ≤ 15 → Every (Other k) rs → ⊥
none-lacks rs n l k h o =
    let e : suc k + (15 - k) ≡ 16 = omega (arith, h) in
    let a : below 16 rs ≤ below (suc k) rs + (15 - k) = rw (← e) (below_last (suc k) (15 - k) rs n) in
    let b = below-le k rs n in
    let c = below_other k rs o in
    let d = below_all rs n in
    omega (arith, a, b, c, d, l, h)

-- a register with the number, or all have another
data Sought (k : ℕ) (rs : List Register) : Type 0 where
  there : (i : ℕ) → i < length rs → (get_or rs i no_register).recency ≡ k → Sought k rs
  nowhere : Every (Other k) rs → Sought k rs

seek : (k : ℕ) (rs : List Register) → Sought k rs
seek k [] = nowhere tt
seek k (r ∷ rs) = by (eqb r.recency k) refl (seek k rs)
  where
    by : (t : Bool) → eqb r.recency k ≡ t → Sought k rs → Sought k (r ∷ rs)
    by true e s = there 0 (omega arith) (eqb-true r.recency k e)
    by false e (there i l q) = there (suc i) (omega (arith, l)) q
    by false e (nowhere o) = nowhere (eqb-false r.recency k e, o)

pub number-found : (rs : List Register) → Numbers rs → length rs ≡ 16 → (k : ℕ) → k ≤ 15 → (i : ℕ) × (i < 16) × ((get_or rs i no_register).recency ≡ k)
number-found rs n l k h = by (seek k rs)
  where
    by : Sought k rs → (i : ℕ) × (i < 16) × ((get_or rs i no_register).recency ≡ k)
    by (there i b q) = (i, omega (arith, b, l), q)
    by (nowhere o) = absurd (none-lacks rs n l k h o)
