-- Laws of answers.
use Rattle.std.specs.Prelude.{if◌then◌else◌}
use Prim.Native.Nat.{ℕ}
use native.Mathlib.Omega.{arith}
use mathlib.Core.Bool.{Bool, true, false}
use mathlib.Core.Path.{◌≡◌, refl, sym}
use borrow.Author.Tests.{eqb-true}
use lib.Dec.{eqb}
use Rattle.words.specs.Answer.{Answer, refuse, ok, ◌>>=◌}
use Rattle.references.specs.Reference.{accept}

pub refuse-ok : {A B : Type 0} {n : ℕ} {a : A} → refuse n ≡ ok a → B
refuse-ok e = absurd (let z : ◌≡◌ {A = ℕ} 0 1 = cc in omega arith)

-- what a number that was accepted or refused is
pub refused-number : {A : Type 0} (v n : ℕ) (a : A) → refuse n ≡ accept v a → n ≡ v
refused-number v n a e = by (eqb v 0) e
  where
    by : (t : Bool) → refuse n ≡ (if t then ok a else refuse v) → n ≡ v
    by true e = refuse-ok e
    by false e = cc

pub accepted-number : {A : Type 0} (v : ℕ) (a b : A) → ok a ≡ accept v b → v ≡ 0
accepted-number v a b e = by (eqb v 0) refl e
  where
    by : (t : Bool) → eqb v 0 ≡ t → ok a ≡ (if t then ok b else refuse v) → v ≡ 0
    by true q e = eqb-true v 0 q
    by false q e = refuse-ok (sym e)

-- an answer that goes on twice
pub then-then : {A B C : Type 0} (x : Answer A) (f : A → Answer B) (g : B → Answer C) → ((x >>= f) >>= g) ≡ (x >>= (λ a. f a >>= g))
then-then (refuse n) f g = refl
then-then (ok a) f g = refl

-- a number that is accepted, and goes on
pub accept-then : {A B : Type 0} (v : ℕ) (a : A) (b : B) (f : A → Answer B) → f a ≡ ok b → (accept v a >>= f) ≡ accept v b
accept-then v a b f e = by (eqb v 0)
  where
    by : (t : Bool) → ((if t then ok a else refuse v) >>= f) ≡ (if t then ok b else refuse v)
    by true = e
    by false = refl
