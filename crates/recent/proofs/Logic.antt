-- Tests of numbers, and tests in a row, as laws and code with early returns come to them.
use Rattle.std.specs.Prelude.{if◌then◌else◌}
use Prim.Native.Nat.{ℕ, zero, suc, ◌<◌, ◌≤◌}
use native.Mathlib.Omega.{arith}
use mathlib.Core.Bool.{Bool, true, false, ◌&&◌}
use mathlib.Core.Path.{◌≡◌, refl, sym, ◌∙◌}
use borrow.Author.Tests.{ltb-true, ltb-false}
use lib.Dec.{eqb, ltb}

pub never : {A : Type 0} → false ≡ true → A
never e = absurd (let z : ◌≡◌ {A = ℕ} 0 1 = cc in omega arith)

pub both : (a b : Bool) → (a && b) ≡ true → (a ≡ true) × (b ≡ true)
both true b e = (refl, e)
both false b e = never e

pub join : {a b : Bool} → a ≡ true → b ≡ true → (a && b) ≡ true
join p q = simp (p, q)

-- one test is passed, and one fails
pub pass : {a b r : Bool} → a ≡ true → r ≡ b → r ≡ (a && b)
pass p q = simp (p, q)

pub stop : {a : Bool} (b : Bool) → a ≡ false → false ≡ (a && b)
stop b p = simp p

pub in_then : {t a r : Bool} (b : Bool) → t ≡ true → r ≡ a → r ≡ (if t then a else b)
in_then b p q = simp (p, q)

pub in-else : {t b r : Bool} (a : Bool) → t ≡ false → r ≡ b → r ≡ (if t then a else b)
in-else a p q = simp (p, q)

-- what a test called in a condition `!f(..)` answered
pub answered-true : {t r : Bool} → r ≡ t → r ≡ true → t ≡ true
answered-true p q = sym p ∙ q

pub answered-false : {t r : Bool} → r ≡ t → r ≡ false → t ≡ false
answered-false p q = sym p ∙ q

-- not more and not equal is less
pub strict : (a b : ℕ) → a ≤ b → (a ≡ b → ⊥) → a < b
strict a b l ne = by (ltb a b) refl
  where
    by : (t : Bool) → ltb a b ≡ t → a < b
    by true e = ltb-true a b e
    by false e = absurd (ne (omega (arith, l, ltb-false a b e)))

pub some : (n : ℕ) → eqb n 0 ≡ false → 1 ≤ n
some zero e = never (sym e)
some (suc n) e = omega arith
