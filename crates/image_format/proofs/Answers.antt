-- What an answer that is a value says of the tests and answers on the way to it.
use Prim.Native.Nat.{ℕ}
use native.Mathlib.Omega.{arith}
use mathlib.Core.Path.{◌≡◌, refl}
use mathlib.Core.Bool.{Bool, true, false}
use Rattle.words.specs.Answer.{Answer, refuse, ok, ◌>>=◌, ◌>>◌, require}

pub no_value : {A : Type 0} {B : Type 0} {n : ℕ} {y : A} → refuse n ≡ ok y → B
no_value e = absurd (let z : ◌≡◌ {A = ℕ} 0 1 = cc in omega arith)

-- the test holds, and the answer is that of what follows
pub passed : {A : Type 0} (b : Bool) (n : ℕ) (x : Answer A) {y : A} → (require b n >> x) ≡ ok y → (b ≡ true) × (x ≡ ok y)
passed true n x e = (refl, e)
passed false n x e = no_value e

pub test : (b : Bool) (n : ℕ) → require b n ≡ ok tt → b ≡ true
test true n e = refl
test false n e = no_value e

pub after : {A : Type 0} (a : Answer (Unit {0})) (x : Answer A) {y : A} → (a >> x) ≡ ok y → (a ≡ ok tt) × (x ≡ ok y)
after (ok tt) x e = (refl, e)
after (refuse n) x e = no_value e

-- the first answer is a value, and the second follows from it
pub record Bound {A B : Type 0} (a : Answer A) (f : A → Answer B) (y : B) : Type 0 where
  pub value : A
  pub is : a ≡ ok value
  pub next : f value ≡ ok y

pub bound : {A B : Type 0} (a : Answer A) (f : A → Answer B) {y : B} → (a >>= f) ≡ ok y → Bound a f y
bound (ok x) f e = record { value = x; is = refl; next = e }
bound (refuse n) f e = no_value e

pub the_value : {A : Type 0} {x y : A} → ok x ≡ ok y → x ≡ y
the_value e = cc

pub then_ok : {A B : Type 0} (a : Answer (Unit {0})) (s : A) (f : A → B) → ((a >> ok s) >>= (λ x. ok (f x))) ≡ (a >> ok (f s))
then_ok (ok u) s f = refl
then_ok (refuse n) s f = refl
