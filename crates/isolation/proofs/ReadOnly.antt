-- A domain with no W, whose live frame has no capability with W, could write nothing.
use Rattle.std.specs.Prelude.{if◌then◌else◌}
use Prim.Native.Nat.{ℕ, suc}
use mathlib.Core.Bool.{Bool, true, false, ◌||◌, and-false}
use mathlib.Core.List.{List, [], ◌∷◌}
use mathlib.Core.Path.{◌≡◌, refl}
use lib.Dec.{eqb}
use lib.ListN.{get_or}
use Rattle.words.specs.Answer.{refuse}
use Rattle.words.specs.Numbers.{no_match, no_word, flag_missing}
use Rattle.state.specs.declared.record.Capability.{Capability}
use Rattle.state.specs.declared.record.Machine.{Machine}
use Rattle.state.specs.Record.{no_capability, in_use}
use Rattle.references.specs.declared.flag.Access.TheVariants as access
use Rattle.references.specs.Static.{exists, static_of}
use Rattle.capabilities.specs.Search.{covers_of, first_of}
use Rattle.references.specs.Live.{live_match, sourced, live_of}
use Rattle.isolation.specs.Visible.{could_write}
use Rattle.isolation.specs.Statements.{NoWrite, NoLiveWrite}

-- a search for what no capability fits finds nothing
finds-none : (fits : Capability → Bool) (cs : List Capability) → ((i : ℕ) → fits (get_or cs i no_capability) ≡ false) → first_of fits cs ≡ refuse no_match
unfolding first_of
finds-none fits [] h = refl
finds-none fits (c ∷ cs) h = rw (h 0) (finds-none fits cs (λ i. h (suc i)))

-- without W a capability fits no reference for W
not-covers : (s k : ℕ) (c : Capability) → c.write ≡ false → covers_of s k 1 false true c ≡ false
unfolding covers_of
not-covers s k c e = simp (e, and-false)

pub no_write : (m : Machine) → NoWrite m → NoLiveWrite m → (s k : ℕ) → could_write m s k ≡ false
unfolding could_write static_of live_of live_match
no_write m none dead s k =
    rw (none s, finds-none (covers_of s k 1 false true) _ (λ i. not-covers s k _ (dead i))) (by (exists m.layout.lengths s k) (eqb (in_use m.depth) 0))
  where
    by : (there free : Bool)
        → (eqb (if there then flag_missing else no_word) 0 || eqb (sourced m.layout.lengths m.layout.rights access.Write s k (if free then refuse no_match else refuse no_match)) 0) ≡ false
    by true true = refl
    by true false = refl
    by false true = refl
    by false false = refl
