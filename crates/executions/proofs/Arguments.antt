-- The capabilities of a call's arguments are sound.
use Prim.Native.Nat.{ℕ, zero, suc, ◌+◌, ◌<◌, ◌≤◌, ◌/◌, ◌%◌, ◌^◌}
use native.Mathlib.Omega.{arith}
use mathlib.Core.Bool.{Bool, true, false, ◌||◌}
use mathlib.Core.List.{List, [], ◌∷◌}
use mathlib.Core.Path.{◌≡◌, refl}
use borrow.Author.Tests.{leb-true, eqb-false, eq-eqb}
use lib.Dec.{eqb, leb}
use lib.ListN.{get_or, take}
use lib.Pow.{mod-pow-add, shr-shr}
use Rattle.words.specs.Answer.{refuse, ok, ◌>>◌, require}
use Rattle.words.specs.Field.{field}
use Rattle.words.specs.ModeWord.{mode_of}
use Rattle.words.specs.declared.pointer.Pointer.{Pointer}
use Rattle.words.specs.declared.mode.Mode.{Mode}
use Rattle.state.specs.declared.record.Capability.{Capability}
use Rattle.state.specs.declared.record.Frame.{Frame}
use Rattle.state.specs.Record.{no_capability}
use Rattle.soundness.proofs.Facts.{PointerSound, CapabilitySound}
use Rattle.capabilities.specs.Search.{first_of, covers_of}
use Rattle.references.specs.Live.{live_match, passed_of}
use Rattle.arguments.specs.ArgumentList.{source_of, capability_of}
use Rattle.executions.proofs.Says.{Says, says-bind, says_if}

-- a mode word for an argument that starts at a word number
record ModeSound (start : ℕ) (m : Mode) : Type 0 where
  some : 1 ≤ m.length
  most : m.length ≤ 4096
  end : start + m.length ≤ 4096
  flags : (m.read || m.write) ≡ true

-- five tests in a row
abbrev Tests : Bool → Bool → Bool → Bool → Type 0
Tests a b d e = ((a ≡ true) × (b ≡ true)) × ((d ≡ true) × (e ≡ true))

tests : (P : Mode → Type 0) (m : Mode) (a b c d e : Bool) → (Tests a b d e → P m) → Says P (require a 30 >> require b 30 >> require c 30 >> require d 30 >> require e 30 >> ok m)
tests P m false b c d e h = tt
tests P m true false c d e h = tt
tests P m true true false d e h = tt
tests P m true true true false e h = tt
tests P m true true true true false h = tt
tests P m true true true true true h = h ((refl, refl), (refl, refl))

-- of two bits that are not both 0 and the lower 0, the upper is 1
upper : (q : ℕ) → 1 ≤ q % 2 ^ 2 → (q % 2 ^ 1 ≡ 1 → ⊥) → q / 2 ^ 1 % 2 ^ 1 ≡ 1
upper q h n = omega (arith, n, mod-pow-add q 1 1)

-- one of the two flags is on
one-flag : (w : ℕ) → leb 1 (field 30 2 w) ≡ true → (eqb (field 30 1 w) 1 || eqb (field 31 1 w) 1) ≡ true
unfolding field
one-flag w e = by (eqb (w / 2 ^ 30 % 2 ^ 1) 1) refl
  where
    by : (t : Bool) → eqb (w / 2 ^ 30 % 2 ^ 1) 1 ≡ t → (t || eqb (w / 2 ^ 31 % 2 ^ 1) 1) ≡ true
    by true q = refl
    by false q = eq-eqb (w / 2 ^ 31 % 2 ^ 1) 1 (rw (← shr-shr w 30 1) (upper (w / 2 ^ 30) (leb-true 1 (w / 2 ^ 30 % 2 ^ 2) e) (eqb-false _ 1 q)))

mode-sound : (w start : ℕ) → Says (ModeSound start) (mode_of w start)
unfolding mode_of
mode-sound w start =
    tests (ModeSound start) _ (leb 1 (field 0 13 w)) (leb (field 0 13 w) 4096) (eqb (field 13 17 w) 0) (leb 1 (field 30 2 w)) (leb (start + field 0 13 w) 4096)
    (λ t. record { some = leb-true _ _ t.0.0; most = leb-true _ _ t.0.1; end = leb-true _ _ t.1.1; flags = one-flag w t.1.0 })

-- a capability that is found is one of the run, and fits
pub first-is : (P : Capability → Type 0) (fits : Capability → Bool) (n : ℕ) (cs : List Capability)
    → ((j : ℕ) → j < n → fits (get_or cs j no_capability) ≡ true → P (get_or cs j no_capability)) → Says P (first_of fits (take n cs))
unfolding first_of
first-is P fits zero [] h = tt
first-is P fits zero (c ∷ cs) h = tt
first-is P fits (suc n) [] h = tt
first-is P fits (suc n) (c ∷ cs) h =
    says_if P (fits c) (ok c) (first_of fits (take n cs)) (h 0 (omega arith)) (λ _. first-is P fits n cs (λ j l. h (suc j) (omega arith)))

-- the capabilities of the live frame, where there is one
abbrev pub LiveSound : ℕ → ℕ → Frame → Type 0
LiveSound domains depth live = (depth ≡ 0 → ⊥) → (j : ℕ) → j < live.count → CapabilitySound domains (get_or live.capabilities j no_capability)

module _ (domains caller depth : ℕ) (live : Frame) (known : caller < domains) (sound : LiveSound domains depth live) where
  abbrev Source : ℕ → Type 0
  Source d = d < domains

  match-sound : (fits : Capability → Bool) → Says (CapabilitySound domains) (live_match depth live fits)
  unfolding live_match
  match-sound fits =
      says_if (CapabilitySound domains) (eqb depth 0) (refuse 24) (first_of fits (take live.count live.capabilities)) (λ _. tt)
      (λ e. first-is (CapabilitySound domains) fits live.count live.capabilities (λ j l _. sound (eqb-false depth 0 e) j l))

  passed-sound : (s w n : ℕ) (read write : Bool) → Says Source (passed_of depth live s w n read write)
  unfolding passed_of
  passed-sound s w n read write =
      says-bind (CapabilitySound domains) Source (live_match depth live (covers_of s w n read write)) _ (match-sound (covers_of s w n read write)) (λ c h. h.source)

  pub source_sound : (p : Pointer) (m : Mode) → Says Source (source_of caller depth live p m)
  unfolding source_of
  source_sound p m =
      says_if Source p.tag (passed_of depth live p.segment p.word m.length m.read m.write) (ok caller)
      (λ _. passed-sound p.segment p.word m.length m.read m.write) (λ _. known)

  pub capability-sound : (p : Pointer) (v : ℕ) → PointerSound p → Says (CapabilitySound domains) (capability_of caller depth live p v)
  unfolding capability_of
  capability-sound p v s =
      says-bind (ModeSound p.word) (CapabilitySound domains) (mode_of v p.word) _ (mode-sound v p.word) (λ m h.
      says-bind Source (CapabilitySound domains) (source_of caller depth live p m) _ (source_sound p m) (λ d k.
      record { segment = s.segment; some = h.some; most = h.most; end = h.end; source = k; flags = h.flags }))
