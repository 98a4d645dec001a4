-- A test of each of n numbers: how a loop comes to it, and what it says of each.
use Prim.Native.Nat.{ℕ, zero, suc, ◌+◌, ◌-◌, ◌<◌, ◌≤◌}
use native.Mathlib.Omega.{arith}
use native.Mathlib.Decide.{ℕ_discrete}
use mathlib.Core.Path.{◌≡◌, refl, sym, ◌∙◌, ap, subst}
use mathlib.Core.Bool.{Bool, true, false, ◌&&◌, and_assoc}
use Rattle.layout_soundness.specs.SoundLayout.{all_from}
use Rattle.layout_soundness.proofs.Tests.{answered-true, answered-false, both, join}

-- a loop that has passed i of n numbers has the rest left to test
pub record Left (n : ℕ) (p : ℕ → Bool) (i : ℕ) : Type 0 where
  pub most : i ≤ n
  pub rest : all_from n 0 p ≡ all_from (n - i) i p

pub none : (n : ℕ) (p : ℕ → Bool) → Left n p 0
none n p = record { most = omega arith; rest = ap (λ (k : ℕ). all_from k 0 p) (omega arith) }

-- the loop's turn answers r for number i: it ends at a test that fails, goes on at one that is passed, and ends after the last
module _ {n : ℕ} {p : ℕ → Bool} {i : ℕ} (l : Left n p i) where
  now : i < n → all_from n 0 p ≡ (p i && all_from (n - (i + 1)) (i + 1) p)
  unfolding all_from
  now h = l.rest ∙ ap (λ (k : ℕ). all_from k i p) (let z : n - i ≡ suc (n - (i + 1)) = omega arith in z)

  pub fails : {r : Bool} → i < n → r ≡ p i → r ≡ false → false ≡ all_from n 0 p
  fails h e t = sym (now h ∙ simp (answered-false e t))

  pub more : {r : Bool} → i < n → r ≡ p i → r ≡ true → Left n p (i + 1)
  more h e t = record { most = omega arith; rest = now h ∙ simp (answered-true e t) }

  pub done : n ≤ i → true ≡ all_from n 0 p
  unfolding all_from
  done h = sym (l.rest ∙ ap (λ (k : ℕ). all_from k i p) (let z : n - i ≡ 0 = omega arith in z))

from : (n i : ℕ) (p : ℕ → Bool) → all_from n i p ≡ true → (j : ℕ) → i ≤ j → j < i + n → p j ≡ true
unfolding all_from
from zero i p e j a b = absurd (omega arith)
from (suc n) i p e j a b =
    let t = both (p i) (all_from n (i + 1) p) e in
    by (ℕ_discrete i j) t.0 (λ x y. from n (i + 1) p t.1 j x y)
  where
    by : Dec (i ≡ j) → p i ≡ true → (i + 1 ≤ j → j < i + 1 + n → p j ≡ true) → p j ≡ true
    by (yes q) t r = subst (λ (k : ℕ). p k ≡ true) q t
    by (no q) t r = r (omega (arith, q)) (omega arith)

to : (n i : ℕ) (p : ℕ → Bool) → ((j : ℕ) → j < i + n → p j ≡ true) → all_from n i p ≡ true
unfolding all_from
to zero i p h = refl
to (suc n) i p h = join (h i (omega arith)) (to n (i + 1) p (λ j l. h j (omega arith)))

-- what the test of all says of each, and back
pub each : (n : ℕ) (p : ℕ → Bool) → all_from n 0 p ≡ true → (j : ℕ) → j < n → p j ≡ true
each n p e j h = from n 0 p e j (omega arith) (omega arith)

pub all : (n : ℕ) (p : ℕ → Bool) → ((j : ℕ) → j < n → p j ≡ true) → all_from n 0 p ≡ true
all n p h = to n 0 p (λ j l. h j (omega arith))

pub and-true : (a : Bool) → (a && true) ≡ a
and-true true = refl
and-true false = refl

-- the test of one number more
pub one_more : (n i : ℕ) (p : ℕ → Bool) → all_from (suc n) i p ≡ (all_from n i p && p (i + n))
unfolding all_from
one_more zero i p = and-true (p i) ∙ ap p (let z : i ≡ i + 0 = omega arith in z)
one_more (suc n) i p =
    let e : i + 1 + n ≡ i + suc n = omega arith in
    ap (λ (b : Bool). p i && b) (one_more n (i + 1) p ∙ ap (λ (k : ℕ). all_from n (i + 1) p && p k) e) ∙
    sym (and_assoc (p i) (all_from n (i + 1) p) (p (i + suc n)))

-- a loop without an early end: what the tests of the first i numbers say together
pub record Sofar (n : ℕ) (p : ℕ → Bool) (i : ℕ) (all : Bool) : Type 0 where
  pub most : i ≤ n
  pub told : all ≡ all_from i 0 p

module _ {n : ℕ} {p : ℕ → Bool} where
  pub begun : Sofar n p 0 true
  unfolding all_from
  begun = record { most = omega arith; told = refl }

  pub joined : {i : ℕ} {all r : Bool} → Sofar n p i all → i < n → r ≡ p i → Sofar n p (i + 1) (all && r)
  joined {i} s h e =
      let z : suc i ≡ i + 1 = omega arith in
      let o : 0 + i ≡ i = omega arith in
      record {
        most = omega arith;
        told = (λ j. s.told j && e j) ∙ ap (λ (k : ℕ). all_from i 0 p && p k) (sym o) ∙ sym (one_more i 0 p) ∙ ap (λ (k : ℕ). all_from k 0 p) z;
      }

  pub ended : {i : ℕ} {all : Bool} → Sofar n p i all → n ≤ i → all ≡ all_from n 0 p
  ended {i} s h = s.told ∙ ap (λ (k : ℕ). all_from k 0 p) (let z : i ≡ n = omega (arith, s.most) in z)

-- what each goal of a loop with an early end is
pub ruleset turns = (none, more, fails, done)
