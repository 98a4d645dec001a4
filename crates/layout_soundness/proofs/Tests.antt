-- Tests in a row and tests by cases, as code with early returns comes to them.
use Rattle.std.specs.Prelude.{if◌then◌else◌}
use Prim.Native.Nat.{ℕ, ◌≤◌}
use mathlib.Core.Path.{◌≡◌, refl, sym, ◌∙◌, ap}
use mathlib.Core.Bool.{Bool, true, false, ◌&&◌}
use native.Mathlib.Omega.{arith}
use borrow.Author.Tests.{le-leb, leb-true}
use lib.Dec.{leb}
use Rattle.layout_soundness.specs.SoundLayout.{between}

-- one test is passed, and one fails
pub pass : {a b r : Bool} → a ≡ true → r ≡ b → r ≡ (a && b)
pass p q = simp (p, q)

pub stop : {a : Bool} (b : Bool) → a ≡ false → false ≡ (a && b)
stop b p = simp p

in_then : {t a r : Bool} (b : Bool) → t ≡ true → r ≡ a → r ≡ (if t then a else b)
in_then b p q = simp (p, q)

in-else : {t b r : Bool} (a : Bool) → t ≡ false → r ≡ b → r ≡ (if t then a else b)
in-else a p q = simp (p, q)

-- a number between two
pub inside : {low high n : ℕ} → low ≤ n → n ≤ high → between low high n ≡ true
inside p q = simp (le-leb _ _ p, le-leb _ _ q)

-- what a test called in a condition `!f(..)` answered
pub answered-true : {t r : Bool} → r ≡ t → r ≡ true → t ≡ true
answered-true p q = sym p ∙ q

pub answered-false : {t r : Bool} → r ≡ t → r ≡ false → t ≡ false
answered-false p q = sym p ∙ q

-- what tests that are passed say, and back
pub both : (a b : Bool) → (a && b) ≡ true → (a ≡ true) × (b ≡ true)
both true b e = (refl, e)
both false b e = absurd (let z : ◌≡◌ {A = ℕ} 0 1 = ap (λ (t : Bool). if t then 1 else 0) e in omega arith)

pub join : {a b : Bool} → a ≡ true → b ≡ true → (a && b) ≡ true
join p q = simp (p, q)

pub bounds : (low high n : ℕ) → between low high n ≡ true → (low ≤ n) × (n ≤ high)
bounds low high n e = let t = both (leb low n) (leb n high) e in (leb-true _ _ t.0, leb-true _ _ t.1)

pub then-part : {t a : Bool} (b : Bool) → t ≡ true → (if t then a else b) ≡ true → a ≡ true
then-part b p e = in_then b p refl ∙ e

pub else-part : {t b : Bool} (a : Bool) → t ≡ false → (if t then a else b) ≡ true → b ≡ true
else-part a p e = in-else a p refl ∙ e

pub either-part : (t : Bool) {a b : Bool} → (t ≡ true → a ≡ true) → (t ≡ false → b ≡ true) → (if t then a else b) ≡ true
either-part true f g = f refl
either-part false f g = g refl
