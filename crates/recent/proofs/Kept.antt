-- Sound registers stay sound: by a reference, by a call, by a return.
use Rattle.std.specs.Prelude.{if◌then◌else◌}
use Prim.Native.Nat.{ℕ, suc, ◌+◌, ◌-◌, ◌<◌, ◌≤◌}
use native.Mathlib.Omega.{arith}
use mathlib.Core.Bool.{Bool, true, false}
use mathlib.Core.List.{List, [], ◌∷◌}
use mathlib.Core.Path.{◌≡◌, refl, sym, ap, ◌∙◌}
use lib.Dec.{eqb}
use lib.ListN.{length, get_or, set, take}
use lib.Seq.{get_or-set_same}
use Rattle.words.specs.Answer.{Answer, refuse, ok, ◌>>=◌}
use Rattle.state.specs.declared.record.Capability.{Capability}
use Rattle.state.specs.declared.record.Frame.{Frame}
use Rattle.state.specs.declared.record.Register.{Register}
use Rattle.state.specs.Record.{no_capability, no_frame}
use Rattle.capabilities.specs.Search.{first_of}
use Rattle.recent.specs.Entering.{same, all_yield, may_enter, capabilities_of}
use Rattle.recent.specs.Registers.{fresh_registers, touched, with_entry, cleared, listed}
use Rattle.recent.specs.SoundRegisters.{absent, numbers_test, register_test, contents_test, recent_test}
use Rattle.recent.specs.Found.{holds as matches, held_of, noted, by_held, found_of, registers_after}
use Rattle.recent.proofs.Logic.{both, join, some}
use Rattle.recent.proofs.Numbers.{Numbers, numbers-are, are-numbers, touched-numbers, entered-numbers}
use Rattle.recent.proofs.Ranks.{cleared-numbers}
use Rattle.recent.proofs.ContentsKept.{touched-contents, entered-contents, called-contents, cleared-contents}
use Rattle.recent.proofs.Rows.{last-may}

pub fresh-recent : (fs : List Frame) → recent_test 0 fs fresh_registers ≡ true
unfolding recent_test numbers_test absent contents_test register_test same
fresh-recent fs = refl

-- the two parts of the test
pub recent-both : (d : ℕ) (fs : List Frame) (rs : List Register) → Numbers rs → contents_test d fs rs ≡ true → recent_test d fs rs ≡ true
unfolding recent_test
recent-both d fs rs n c = join (are-numbers rs n) c

-- the number of the register that a lookup gives
held_number : (d : ℕ) (fits : Capability → Bool) (rs : List Register) → Numbers rs → (r : Register) → held_of d fits rs ≡ ok r → r.recency ≤ 15
unfolding held_of
held_number d fits [] n r e = absurd (let z : ◌≡◌ {A = ℕ} 0 1 = cc in omega arith)
held_number d fits (x ∷ xs) n r e = by (matches d fits x) (held_number d fits xs n.2 r) e
  where
    by : (t : Bool) → (held_of d fits xs ≡ ok r → r.recency ≤ 15) → (if t then ok x else held_of d fits xs) ≡ ok r → r.recency ≤ 15
    by true rest e = let s : x ≡ r = cc in rw (sym s) n.0
    by false rest e = rest e

module _ (d : ℕ) (fs : List Frame) (rs : List Register) (t : recent_test d fs rs ≡ true) where
  pub recent-numbers : Numbers rs
  unfolding recent_test
  recent-numbers = numbers-are rs (both (numbers_test rs) _ t).0

  pub recent-contents : contents_test d fs rs ≡ true
  unfolding recent_test
  recent-contents = (both (numbers_test rs) _ t).1

  -- by a reference, whatever it asks for
  pub found-sound : (fits : Capability → Bool) → recent_test d fs (registers_after rs (found_of rs d (get_or fs (d - 1) no_frame) fits)) ≡ true
  unfolding found_of
  found-sound fits = by (eqb d 0) refl
    where
      cs : List Capability
      cs = capabilities_of (get_or fs (d - 1) no_frame)

      noted-sound : 1 ≤ d → (c : Capability) (u : Bool) → may_enter cs c ≡ u → recent_test d fs (if u then with_entry c d rs else rs) ≡ true
      noted-sound l c true m = recent-both d fs (with_entry c d rs) (entered-numbers c d rs recent-numbers) (entered-contents d fs rs recent-contents c l m)
      noted-sound l c false m = t

      searched-sound : 1 ≤ d → (a : Answer Capability)
          → recent_test d fs (registers_after rs (a >>= (λ c. ok (record { capability = c; registers = noted d cs rs c })))) ≡ true
      searched-sound l (refuse n) = t
      searched-sound l (ok c) = noted-sound l c (may_enter cs c) refl

      through : 1 ≤ d → (a : Answer Register) → held_of d fits rs ≡ a → recent_test d fs (registers_after rs (by_held d fits cs rs a)) ≡ true
      through l (refuse n) h = searched-sound l (first_of fits cs)
      through l (ok r) h =
          recent-both d fs (touched r.recency rs) (touched-numbers r.recency (held_number d fits rs recent-numbers r h) rs recent-numbers) (touched-contents d fs rs recent-contents r.recency)

      by : (u : Bool) → eqb d 0 ≡ u → recent_test d fs (registers_after rs (if u then refuse 24 else by_held d fits cs rs (held_of d fits rs))) ≡ true
      by true e = t
      by false e = through (some d e) (held_of d fits rs) refl

  -- by a call, with the frame f
  pub called-sound : d < length fs → (f : Frame) → 1 ≤ f.count → f.count ≤ length f.capabilities → recent_test (d + 1) (set fs d f) (listed (d + 1) f rs) ≡ true
  unfolding listed
  called-sound room f least rows = by (all_yield (take (f.count - 1) f.capabilities) c) refl
    where
      c : Capability
      c = get_or f.capabilities (f.count - 1) no_capability

      may : all_yield (take (f.count - 1) f.capabilities) c ≡ true → may_enter (capabilities_of (get_or (set fs d f) (d + 1 - 1) no_frame)) c ≡ true
      may y =
          let i : ◌≡◌ {A = ℕ} (d + 1 - 1) d = omega arith in
          let n : suc (f.count - 1) ≡ f.count = omega (arith, least) in
          let m : may_enter (take (suc (f.count - 1)) f.capabilities) c ≡ true = last-may (f.count - 1) f.capabilities (omega (arith, least, rows)) y in
          let m' : may_enter (capabilities_of f) c ≡ true = ap (λ (k : ℕ). may_enter (take k f.capabilities) c) (sym n) ∙ m in
          ap (λ (k : ℕ). may_enter (capabilities_of (get_or (set fs d f) k no_frame)) c) i ∙ ap (λ (g : Frame). may_enter (capabilities_of g) c) (get_or-set_same fs d f no_frame room) ∙ m'

      by : (u : Bool) → all_yield (take (f.count - 1) f.capabilities) c ≡ u → recent_test (d + 1) (set fs d f) (if u then with_entry c (d + 1) rs else rs) ≡ true
      by true y =
          recent-both (d + 1) (set fs d f) (with_entry c (d + 1) rs) (entered-numbers c (d + 1) rs recent-numbers)
          (entered-contents (d + 1) (set fs d f) rs (called-contents d fs rs recent-contents f) c (omega arith) (may y))
      by false y = recent-both (d + 1) (set fs d f) rs recent-numbers (called-contents d fs rs recent-contents f)

  -- by a return; what is put in the frame's row does not matter
  pub returned-sound : 1 ≤ d → (f : Frame) → recent_test (d - 1) (set fs (d - 1) f) (cleared d rs) ≡ true
  returned-sound l f = recent-both (d - 1) (set fs (d - 1) f) (cleared d rs) (cleared-numbers d rs recent-numbers) (cleared-contents d fs rs recent-contents f l)
