-- A capability may be entered if it stands in a row of its frame and all rows before it yield.
use Rattle.std.specs.Prelude.{if◌then◌else◌}
use Prim.Native.Nat.{ℕ, zero, suc, ◌<◌}
use native.Mathlib.Omega.{arith}
use mathlib.Core.Bool.{Bool, true, false, ◌&&◌}
use mathlib.Core.List.{List, [], ◌∷◌}
use mathlib.Core.Path.{◌≡◌, refl}
use lib.ListN.{length, get_or, take}
use Rattle.state.specs.declared.record.Capability.{Capability}
use Rattle.state.specs.Record.{no_capability}
use Rattle.recent.specs.Entering.{yields, same, all_yield, may_enter}
use Rattle.recent.proofs.Logic.{never, both, join}
use Rattle.recent.proofs.Same.{same-is, same_self}

pub last-may : (n : ℕ) (cs : List Capability) → n < length cs → all_yield (take n cs) (get_or cs n no_capability) ≡ true → may_enter (take (suc n) cs) (get_or cs n no_capability) ≡ true
unfolding all_yield may_enter
last-may n [] h e = absurd (omega (arith, h))
last-may zero (x ∷ xs) h e = rw (same_self x)
last-may (suc n) (x ∷ xs) h e =
    let c = get_or xs n no_capability in
    let b = both (yields x c) _ e in
    by c (same x c) (last-may n xs (omega (arith, h)) b.1) b.0
  where
    by : (c : Capability) (t : Bool) → may_enter (take (suc n) xs) c ≡ true → yields x c ≡ true → (if t then true else (yields x c && may_enter (take (suc n) xs) c)) ≡ true
    by c true m y = refl
    by c false m y = join y m

-- the other way
pub may-row : (cs : List Capability) (c : Capability) → may_enter cs c ≡ true
    → (n : ℕ) × (n < length cs) × (get_or cs n no_capability ≡ c) × (all_yield (take n cs) c ≡ true)
unfolding all_yield may_enter
may-row [] c m = never m
may-row (x ∷ xs) c m = by (same x c) refl m (may-row xs c)
  where
    by : (t : Bool) → same x c ≡ t → (if t then true else (yields x c && may_enter xs c)) ≡ true
        → (may_enter xs c ≡ true → (n : ℕ) × (n < length xs) × (get_or xs n no_capability ≡ c) × (all_yield (take n xs) c ≡ true))
        → (n : ℕ) × (n < length (x ∷ xs)) × (get_or (x ∷ xs) n no_capability ≡ c) × (all_yield (take n (x ∷ xs)) c ≡ true)
    by true e m rest = (0, omega arith, same-is x c e, refl)
    by false e m rest =
        let b = both (yields x c) _ m in
        let r = rest b.1 in
        (suc r.0, omega (arith, r.1), r.2, join b.0 r.3)
