-- The live check of a word by the source that is passed on for it.
use Rattle.std.specs.Prelude.{Result, Ok, Err, is_ok, if◌then◌else◌}
use Prim.Native.Nat.{ℕ}
use native.Mathlib.Omega.{arith}
use mathlib.Core.Bool.{Bool, true, false, not}
use mathlib.Core.List.{List}
use mathlib.Core.Path.{◌≡◌, refl, sym}
use lib.Dec.{eqb}
use Rattle.words.specs.Answer.{Answer, refuse, ok, ◌>>=◌}
use Rattle.words.specs.Numbers.{source_fails}
use Rattle.words.specs.Refusal.{status}
use Rattle.words.specs.declared.refusal.Refusal.{Refusal}
use Rattle.words.proofs.Results.{number-ne_0}
use Rattle.state.specs.declared.record.Capability.{Capability}
use Rattle.state.specs.declared.record.Frame.{Frame}
use Rattle.capabilities.specs.Search.{covers_of}
use Rattle.references.specs.declared.flag.Access.{Access}
use Rattle.references.specs.Flag.{flag_of, is_read}
use Rattle.references.specs.Static.{static_of}
use Rattle.references.specs.Live.{live_match, live_of, passed_of}
use Rattle.references.proofs.Passes.{match-refuses}
use Rattle.references.proofs.Sources.{live-passed}

-- a result passes where its number is 0
pub passes : {A : Type 0} (r : Result A Refusal) → is_ok r ≡ eqb (status r) 0
passes (Ok a) = refl
passes (Err e) = sym (number-ne_0 e)

module _ (lengths rights : List ℕ) (depth : ℕ) (f : Frame) (a : Access) (s w : ℕ) where
  abbrev passed : Answer ℕ
  passed = passed_of depth f s w 1 (is_read a) (not (is_read a))

  -- where none is, the number is 24
  none_passed : (n : ℕ) → passed ≡ refuse n → n ≡ 24
  unfolding passed_of
  none_passed n e = by (live_match depth f fits) refl e
    where
      fits : Capability → Bool
      fits = covers_of s w 1 (is_read a) (not (is_read a))

      by : (x : Answer Capability) → live_match depth f fits ≡ x → (x >>= (λ c. ok c.source)) ≡ refuse n → n ≡ 24
      by (refuse k) q e = let z : k ≡ n = cc in omega (arith, z, match-refuses depth f fits k q)
      by (ok c) q e = absurd (let z : ◌≡◌ {A = ℕ} 0 1 = cc in omega arith)

  pub live-refused : (n : ℕ) → passed ≡ refuse n → eqb (live_of lengths rights depth f a s w) 0 ≡ false
  live-refused n e = rw (live-passed lengths rights depth f a s w, e, none_passed n e) refl

  pub live-source : (d : ℕ) → passed ≡ ok d → eqb (live_of lengths rights depth f a s w) 0 ≡ eqb (static_of lengths rights d (flag_of a) s w) 0
  live-source d e = rw (live-passed lengths rights depth f a s w, e) (by (eqb (static_of lengths rights d (flag_of a) s w) 0))
    where
      by : (t : Bool) → eqb (if t then 0 else source_fails) 0 ≡ t
      by true = refl
      by false = refl
