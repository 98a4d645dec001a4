-- No gate is dead: what the test says of each segment with gates, and back.
use Prim.Native.Nat.{ℕ, ◌<◌, ◌≤◌}
use native.Mathlib.Omega.{arith}
use mathlib.Core.Bool.{Bool, true, false, ◌||◌}
use mathlib.Core.List.{List}
use mathlib.Core.Path.{◌≡◌, refl}
use borrow.Author.Tests.{ne_eqb, eqb-false}
use lib.Dec.{eqb}
use lib.ListN.{get_or}
use Rattle.references.specs.declared.flag.Flag.TheVariants as flag
use Rattle.references.specs.Flag.{has}
use Rattle.references.specs.Static.{rights_of}
use Rattle.layout_soundness.specs.SoundLayout.{gate_test, gates_test}
use Rattle.layout_soundness.proofs.All.{each, all}

abbrev pub GatesSound : List ℕ → List ℕ → List ℕ → Type 0
GatesSound gates gatedomains rights = (i : ℕ) → i < 16 → 1 ≤ get_or gates i 0 → has (rights_of rights (get_or gatedomains i 0) i) flag.Execute ≡ true

gate-fact : (rights : List ℕ) (i gates domain : ℕ) → gate_test rights i gates domain ≡ true → 1 ≤ gates → has (rights_of rights domain i) flag.Execute ≡ true
unfolding gate_test
gate-fact rights i gates domain e h = simp (ne_eqb gates 0 (λ z. omega (arith, z, h))) at e

fact-gate : (rights : List ℕ) (i gates domain : ℕ) → (1 ≤ gates → has (rights_of rights domain i) flag.Execute ≡ true) → gate_test rights i gates domain ≡ true
unfolding gate_test
fact-gate rights i gates domain f = by (eqb gates 0) refl
  where
    by : (t : Bool) → eqb gates 0 ≡ t → (t || has (rights_of rights domain i) flag.Execute) ≡ true
    by true p = refl
    by false p = let n = eqb-false gates 0 p in f (omega (arith, n))

module _ (gates gatedomains rights : List ℕ) where
  abbrev at : ℕ → Bool
  at i = gate_test rights i (get_or gates i 0) (get_or gatedomains i 0)

  pub gates-facts : gates_test gates gatedomains rights ≡ true → GatesSound gates gatedomains rights
  unfolding gates_test
  gates-facts e i h = gate-fact rights i _ _ (each 16 at e i h)

  pub facts-gates : GatesSound gates gatedomains rights → gates_test gates gatedomains rights ≡ true
  unfolding gates_test
  facts-gates f = all 16 at (λ i h. fact-gate rights i _ _ (f i h))
