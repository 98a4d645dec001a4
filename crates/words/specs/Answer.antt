-- Answers: a value, or the number of a refusal.
use Rattle.std.specs.Prelude.{ℕ, Bool, true, false}

pub data Answer (A : Type 0) : Type 0 where
  refuse : ℕ → Answer A
  ok : A → Answer A

-- go on with the value; a refusal stays
abbrev pub ◌>>=◌ : {A B : Type 0} → Answer A → (A → Answer B) → Answer B
refuse n >>= f = refuse n
ok a >>= f = f a

-- go on past the value
abbrev pub ◌>>◌ : {A B : Type 0} → Answer A → Answer B → Answer B
refuse n >> b = refuse n
ok a >> b = b

infixl 10 ◌>>=◌
infixl 10 ◌>>◌
-- the refusal n, unless the test holds
abbrev pub require : Bool → ℕ → Answer (Unit {0})
require true n = ok tt
require false n = refuse n

-- the number that a call returns: 0, or the refusal
abbrev pub number_of : {A : Type 0} → Answer A → ℕ
number_of (refuse n) = n
number_of (ok a) = 0
