-- A call's way, by the numbers of two static checks.
use Rattle.std.specs.Prelude.{if◌then◌else◌}
use Prim.Native.Nat.{ℕ, ◌<◌, ◌≤◌}
use native.Mathlib.Omega.{arith}
use mathlib.Core.Bool.{Bool, true, false, not}
use mathlib.Core.List.{List}
use mathlib.Core.Path.{◌≡◌, refl, sym, ap, ◌∙◌}
use borrow.Author.Tests.{lt-ltb, le-ltb}
use lib.Dec.{ltb}
use Rattle.words.specs.Answer.{Answer, refuse, ok, ◌>>◌, require}
use Rattle.words.specs.declared.pointer.Pointer.{Pointer}
use Rattle.references.specs.declared.flag.Flag.TheVariants as flag
use Rattle.references.specs.Flag.{has}
use Rattle.references.specs.Static.{exists, rights_of, static_of}
use Rattle.transfers.specs.Transfer.{call_way}
use Rattle.state.specs.Record.{of_segment}

-- a static check's number, by whether the word exists and the flag is there
abbrev number : Bool → Bool → ℕ
number x f = if x then (if f then 0 else 22) else 21

-- the way, by whether the word exists, E, G, a gate, a free frame
abbrev way : Bool → Bool → Bool → Bool → Bool → Answer Bool
way x e g w d = require x 21 >> (if e then ok true else (require g 22 >> require w 29 >> require d 31 >> ok false))

inside : (x e g w d : Bool) → number x e ≡ 0 → way x e g w d ≡ ok true
inside true true g w d n = refl
inside true false g w d n = absurd (omega arith)
inside false e g w d n = absurd (omega arith)

refused : (x e g w d : Bool) → (number x e ≡ 0 → ⊥) → (number x g ≡ 0 → ⊥) → way x e g w d ≡ refuse (number x g)
refused true true g w d n₀ m = absurd (n₀ refl)
refused true false true w d n₀ m = absurd (m refl)
refused true false false w d n₀ m = refl
refused false e g w d n₀ m = refl

open-gate : (x e g w d : Bool) → (number x e ≡ 0 → ⊥) → number x g ≡ 0 → way x e g w d ≡ (require w 29 >> require d 31 >> ok false)
open-gate true true g w d n₀ m = absurd (n₀ refl)
open-gate true false true w d n₀ m = refl
open-gate true false false w d n₀ m = absurd (omega arith)
open-gate false e g w d n₀ m = absurd (omega arith)

module _ (lengths gates rights : List ℕ) (domain depth : ℕ) (p : Pointer) where
  abbrev E : ℕ
  E = static_of lengths rights domain flag.Execute p.segment p.word

  abbrev G : ℕ
  G = static_of lengths rights domain flag.Gate p.segment p.word

  abbrev x : Bool
  x = exists lengths p.segment p.word

  abbrev e : Bool
  e = has (rights_of rights domain p.segment) flag.Execute

  abbrev g : Bool
  g = has (rights_of rights domain p.segment) flag.Gate

  abbrev w : Bool
  w = ltb p.word (of_segment gates p.segment)

  abbrev d : Bool
  d = ltb depth 8

  pub way-tagged : p.tag ≡ true → call_way lengths gates rights domain depth p ≡ refuse 28
  unfolding call_way
  way-tagged t = rw t

  module _ (t : p.tag ≡ false) where
    pub way-inside : E ≡ 0 → call_way lengths gates rights domain depth p ≡ ok true
    unfolding call_way static_of
    way-inside n = rw t (inside x e g w d n)

    module _ (e₀ : E ≡ 0 → ⊥) where
      pub way-refused : (G ≡ 0 → ⊥) → call_way lengths gates rights domain depth p ≡ refuse G
      unfolding call_way static_of
      way-refused m = rw t (refused x e g w d e₀ m)

      pub way-gate : G ≡ 0 → call_way lengths gates rights domain depth p ≡ (require (ltb p.word (of_segment gates p.segment)) 29 >> require (ltb depth 8) 31 >> ok false)
      unfolding call_way static_of
      way-gate m = rw t (open-gate x e g w d e₀ m)
