-- Answers whose refusals are numbers of faults, 21-32.
use Rattle.std.specs.Prelude.{if◌then◌else◌}
use Prim.Native.Nat.{ℕ}
use native.Mathlib.Omega.{arith}
use mathlib.Core.Bool.{Bool, true, false}
use mathlib.Core.Path.{◌≡◌, refl, subst}
use borrow.Author.Tests.{eqb-false}
use lib.Dec.{eqb}
use Rattle.words.specs.Answer.{Answer, refuse, ok, ◌>>=◌, ◌>>◌, require}
use Rattle.references.specs.Reference.{accept}
use Rattle.executions.specs.Statements.{Fault}

-- an answer's refusal, and a verdict that is not 0
abbrev pub Fails : {A : Type 0} → Answer A → Type 0
Fails (refuse n) = Fault n
Fails (ok a) = Unit {0}

abbrev pub Judged : ℕ → Type 0
Judged n = (n ≡ 0 → ⊥) → Fault n

pub passes : Judged 0
passes h = absurd (h refl)

pub judged-if : (t : Bool) (x y : ℕ) → Judged x → Judged y → Judged (if t then x else y)
judged-if true x y h k = h
judged-if false x y h k = k

pub fails-require : (t : Bool) (n : ℕ) → Fault n → Fails (require t n)
fails-require true n h = tt
fails-require false n h = h

module _ {A : Type 0} where
  pub fails-if : (t : Bool) (x y : Answer A) → Fails x → Fails y → Fails (if t then x else y)
  fails-if true x y h k = h
  fails-if false x y h k = k

  pub fails-accept : (n : ℕ) (a : A) → Judged n → Fails (accept n a)
  fails-accept n a h = by (eqb n 0) refl
    where
      by : (t : Bool) → eqb n 0 ≡ t → Fails (if t then ok a else refuse n)
      by true e = tt
      by false e = h (eqb-false n 0 e)

  pub refused : (x : Answer A) (n : ℕ) → Fails x → x ≡ refuse n → Fault n
  refused (refuse k) n h e = subst Fault (let q : k ≡ n = cc in q) h
  refused (ok a) n h e = absurd (let z : ◌≡◌ {A = ℕ} 0 1 = cc in omega arith)

module _ {A B : Type 0} where
  pub fails-bind : (x : Answer A) (f : A → Answer B) → Fails x → ((a : A) → Fails (f a)) → Fails (x >>= f)
  fails-bind (refuse n) f h k = h
  fails-bind (ok a) f h k = k a

  pub fails-past : (x : Answer A) (y : Answer B) → Fails x → Fails y → Fails (x >> y)
  fails-past (refuse n) y h k = h
  fails-past (ok a) y h k = k
