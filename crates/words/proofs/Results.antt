-- Laws of results and their refusals.
use Prim.Native.Nat.{ℕ}
use native.Mathlib.Omega.{arith}
use mathlib.Core.Path.{◌≡◌, refl, ap, subst}
use mathlib.Core.Bool.{Bool, true, false}
use lib.Dec.{eqb}
use Rattle.std.specs.Prelude.{Result, Ok, Err, is_ok, IsErrAnd}
use Rattle.words.specs.Refusal.{number, status}
use Rattle.words.specs.declared.refusal.Refusal.{Refusal}
use Rattle.words.specs.declared.refusal.Refusal.TheVariants as reason

-- no refusal has the number of what is passed
pub number-ne_0 : (e : Refusal) → eqb (number e) 0 ≡ false
number-ne_0 reason.CutShort = refl
number-ne_0 reason.WrongKind = refl
number-ne_0 reason.WrongLength = refl
number-ne_0 reason.BadField = refl
number-ne_0 reason.TooManyWords = refl
number-ne_0 reason.BytesLeft = refl
number-ne_0 reason.MemoryTooShort = refl
number-ne_0 reason.OutputTooShort = refl
number-ne_0 reason.NotSound = refl
number-ne_0 reason.DeadGate = refl
number-ne_0 reason.NoWord = refl
number-ne_0 reason.FlagMissing = refl
number-ne_0 reason.OutOfRange = refl
number-ne_0 reason.NoMatch = refl
number-ne_0 reason.SourceFails = refl
number-ne_0 reason.BadPointer = refl
number-ne_0 reason.BadInstruction = refl
number-ne_0 reason.TaggedTransfer = refl
number-ne_0 reason.NotGate = refl
number-ne_0 reason.BadArgument = refl
number-ne_0 reason.NoFreeFrame = refl
number-ne_0 reason.BadReturn = refl

-- what a `?` hands on is the refusal that it met
pub handed_on : {A : Type 0} (r : Result A Refusal) (e : Refusal) → IsErrAnd r (λ y. y ≡ e) → r ≡ Err e
handed_on (Ok a) e h = absurd h
handed_on (Err y) e h = ap Err h

pub number-some : (e : Refusal) → number e ≡ 0 → ⊥
number-some e h = absurd (let z : true ≡ false = subst (λ (n : ℕ). eqb n 0 ≡ false) h (number-ne_0 e) in cc)

-- what the test of a result says of its number
pub status-ok : {A : Type 0} (r : Result A Refusal) → true ≡ is_ok r → status r ≡ 0
status-ok (Ok a) h = refl
status-ok (Err e) h = absurd (let z : true ≡ false = h in cc)

pub status-err : {A : Type 0} (r : Result A Refusal) → false ≡ is_ok r → status r ≡ 0 → ⊥
status-err (Ok a) h n = absurd (let z : false ≡ true = h in cc)
status-err (Err e) h n = number-some e n
