-- What the test of the registers' contents says.
use Rattle.std.specs.Prelude.{if◌then◌else◌}
use Prim.Native.Nat.{ℕ, ◌-◌, ◌≤◌}
use native.Mathlib.Omega.{arith}
use mathlib.Core.Bool.{Bool, true, false, ◌&&◌}
use mathlib.Core.List.{List, [], ◌∷◌, map}
use mathlib.Core.Path.{◌≡◌, refl, sym, ap, ◌∙◌}
use borrow.Author.Tests.{eqb-true, leb-true, le-leb, eq-eqb, ne_eqb}
use lib.Dec.{eqb, leb}
use lib.ListN.{get_or}
use Rattle.state.specs.declared.record.Capability.{Capability}
use Rattle.state.specs.declared.record.Frame.{Frame}
use Rattle.state.specs.declared.record.Register.{Register}
use Rattle.state.specs.Record.{no_capability, no_frame}
use Rattle.recent.specs.Entering.{same, may_enter, capabilities_of}
use Rattle.recent.specs.Registers.{numbered}
use Rattle.recent.specs.SoundRegisters.{register_test, frame_of_register, contents_test}
use Rattle.recent.proofs.Logic.{both, join, some}
use Rattle.recent.proofs.Same.{same-is, same_self}
use Rattle.recent.proofs.Agrees.{Held}

-- a register is sound for d frames in use
abbrev pub RegisterSound : ℕ → List Frame → Register → Type 0
RegisterSound d fs r = register_test d (frame_of_register fs r) r ≡ true

-- a register is empty, or holds what its frame has and what may be entered
pub data Holds (d : ℕ) (fs : List Frame) (r : Register) : Type 0 where
  empty : r.frame ≡ 0 → r.capability ≡ no_capability → Holds d fs r
  full : 1 ≤ r.frame → r.frame ≤ d → may_enter (capabilities_of (frame_of_register fs r)) r.capability ≡ true → Holds d fs r

pub holds : (d : ℕ) (fs : List Frame) (r : Register) → RegisterSound d fs r → Holds d fs r
unfolding register_test
holds d fs r t = by (eqb r.frame 0) refl t
  where
    by : (u : Bool) → eqb r.frame 0 ≡ u
        → (if u then same r.capability no_capability else (leb r.frame d && may_enter (capabilities_of (frame_of_register fs r)) r.capability)) ≡ true → Holds d fs r
    by true e t = empty (eqb-true _ _ e) (same-is r.capability no_capability t)
    by false e t = let b = both (leb r.frame d) _ t in full (some r.frame e) (leb-true _ _ b.0) b.1

pub held : (d : ℕ) (fs : List Frame) (r : Register) → Holds d fs r → RegisterSound d fs r
unfolding register_test
held d fs r (empty e c) = rw (eq-eqb r.frame 0 e) (ap (λ (x : Capability). same x no_capability) c ∙ same_self no_capability)
held d fs r (full ne l m) = rw (ne_eqb r.frame 0 (λ q. omega (arith, q, ne))) (join (le-leb r.frame d l) m)

-- a number does not matter
pub renamed : (d : ℕ) (fs : List Frame) (r : Register) (n : ℕ) → RegisterSound d fs r → RegisterSound d fs (numbered r n)
unfolding register_test
renamed d fs r n t = t

-- registers stay sound, each by itself
pub contents-map : (d e : ℕ) (fs gs : List Frame) (f : Register → Register) → ((r : Register) → RegisterSound d fs r → RegisterSound e gs (f r))
    → (rs : List Register) → contents_test d fs rs ≡ true → contents_test e gs (map f rs) ≡ true
unfolding contents_test
contents-map d e fs gs f h [] t = refl
contents-map d e fs gs f h (r ∷ rs) t =
    let b = both (register_test d (frame_of_register fs r) r) _ t in
    join (h r b.0) (contents-map d e fs gs f h rs b.1)

pub contents-each : (d e : ℕ) (fs gs : List Frame) → ((r : Register) → RegisterSound d fs r → RegisterSound e gs r)
    → (rs : List Register) → contents_test d fs rs ≡ true → contents_test e gs rs ≡ true
unfolding contents_test
contents-each d e fs gs h [] t = refl
contents-each d e fs gs h (r ∷ rs) t =
    let b = both (register_test d (frame_of_register fs r) r) _ t in
    join (h r b.0) (contents-each d e fs gs h rs b.1)

-- the registers of the live frame hold what it has and what may be entered
pub sound-held : (depth : ℕ) (fs : List Frame) (rs : List Register) → 1 ≤ depth → contents_test depth fs rs ≡ true → Held depth (capabilities_of (get_or fs (depth - 1) no_frame)) rs
unfolding contents_test
sound-held depth fs [] h e = tt
sound-held depth fs (r ∷ rs) h e = let b = both (register_test depth (frame_of_register fs r) r) _ e in ((λ f. by (holds depth fs r b.0) f), sound-held depth fs rs h b.1)
  where
    by : Holds depth fs r → r.frame ≡ depth → may_enter (capabilities_of (get_or fs (depth - 1) no_frame)) r.capability ≡ true
    by (empty z c) f = absurd (omega (arith, z, f, h))
    by (full ne l m) f = ap (λ (d : ℕ). may_enter (capabilities_of (get_or fs (d - 1) no_frame)) r.capability) (sym f) ∙ m
