-- Memories that differ in one word only.
use Prim.Native.Nat.{ℕ}
use mathlib.Core.Bool.{Bool, true, false, ◌||◌}
use mathlib.Core.List.{List}
use mathlib.Core.Path.{◌≡◌, sym, ◌∙◌}
use borrow.Author.Tests.{eqb-true}
use lib.ListN.{set}
use lib.Seq.{get_or-set_other}
use Rattle.state.specs.declared.record.Machine.{Machine}
use Rattle.state.specs.Record.{in_use, live_frame}
use Rattle.references.specs.declared.flag.Flag.{Flag}
use Rattle.references.specs.declared.flag.Flag.TheVariants as flag
use Rattle.references.specs.declared.flag.Access.{Access}
use Rattle.references.specs.declared.flag.Access.TheVariants as access
use Rattle.references.proofs.Passes.{never, static-exists, live-exists}
use Rattle.references.proofs.Places.{index-apart}
use Rattle.isolation.specs.Visible.{by_static, by_live, may_see, could_write, existing, place, word_at}
use Rattle.isolation.specs.Isolation.{Agree}
use Rattle.isolation.proofs.Or.{either}

module _ (m : Machine) (s k : ℕ) where
  pub static-there : (f : Flag) → by_static m f s k ≡ true → existing m s k ≡ true
  static-there f e = static-exists _ _ _ f s k (eqb-true _ _ e)

  pub live-there : (a : Access) → by_live m a s k ≡ true → existing m s k ≡ true
  live-there a e = live-exists m.layout.lengths m.layout.rights (in_use m.depth) (live_frame m.depth m.frames) a s k (eqb-true _ _ e)

  pub read-there : (by_static m flag.Read s k || by_live m access.Read s k) ≡ true → existing m s k ≡ true
  read-there = either (by_static m flag.Read s k) (by_live m access.Read s k) (static-there flag.Read) (live-there access.Read)

  -- a word that the domain may see exists
  pub seen-there : may_see m s k ≡ true → existing m s k ≡ true
  unfolding may_see
  seen-there = either (by_static m flag.Execute s k) _ (static-there flag.Execute) read-there

  -- and so does one that it could write
  pub written-there : could_write m s k ≡ true → existing m s k ≡ true
  unfolding could_write
  written-there = either (by_static m flag.Write s k) (by_live m access.Write s k) (static-there flag.Write) (live-there access.Write)

-- by any test that only existing words pass: another number in an existing word that does not pass it leaves all that do
pub differs : (see : ℕ → ℕ → Bool) (m : Machine) → ((s k : ℕ) → see s k ≡ true → existing m s k ≡ true)
    → (w : List ℕ) (s k x : ℕ) → existing m s k ≡ true → see s k ≡ false
    → (s' k' : ℕ) → see s' k' ≡ true → word_at m w s' k' ≡ word_at m (set w (place m s k) x) s' k'
differs see m there w s k x e hidden s' k' sees = sym (get_or-set_other w (place m s k) (place m s' k') x 0 other)
  where
    other : place m s' k' ≡ place m s k → ⊥
    other q =
        let same = index-apart m.layout.lengths s' k' s k (there s' k' sees) e q in
        never (sym hidden ∙ (λ i. see (sym same.0 i) (sym same.1 i)) ∙ sees)

-- memories that differ in a word that the domain may not see agree
pub hidden-agrees : (m : Machine) (w : List ℕ) (s k x : ℕ) → existing m s k ≡ true → may_see m s k ≡ false → Agree m w (set w (place m s k) x)
hidden-agrees m w s k x = differs (may_see m) m (seen-there m) w s k x
