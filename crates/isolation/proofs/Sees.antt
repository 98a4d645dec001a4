-- A machine reads and fetches only words that it may see, and stores only in words that it could write.
use Rattle.std.specs.Prelude.{if◌then◌else◌}
use Prim.Native.Nat.{ℕ}
use native.Mathlib.Omega.{arith}
use mathlib.Core.Bool.{Bool, true, false, ◌||◌, or-true}
use mathlib.Core.List.{List}
use mathlib.Core.Path.{◌≡◌, refl, sym, ap, ◌∙◌, fun_ext}
use lib.Dec.{eqb}
use lib.ListN.{get_or}
use Rattle.words.specs.Answer.{refuse, ok, ◌>>=◌}
use Rattle.words.specs.declared.pointer.Pointer.{Pointer}
use Rattle.state.specs.declared.record.Machine.{Machine}
use Rattle.state.specs.Record.{in_use, live_frame}
use Rattle.references.specs.declared.flag.Flag.TheVariants as flag
use Rattle.references.specs.declared.flag.Access.{Access}
use Rattle.references.specs.declared.flag.Access.TheVariants as access
use Rattle.references.specs.Flag.{flag_of}
use Rattle.references.specs.Static.{static_of}
use Rattle.references.specs.Reference.{accept, verdict_of, reference_of, locate_of}
use Rattle.references.specs.Check.{check}
use Rattle.memory.specs.Reader.{read_word, read_of, fetch, fetch_of}
use Rattle.executions.proofs.Fit.{Fit}
use Rattle.executions.proofs.Through.{live_same}
use Rattle.isolation.specs.Visible.{by_static, by_live, may_see, could_write, place}
use Rattle.isolation.specs.Isolation.{Agree}
use Rattle.isolation.proofs.Or.{or_left, or_right}

abbrev verdict : Machine → Access → Pointer → ℕ
verdict m a p = verdict_of m.layout.lengths m.layout.rights m.registers.domain m.recent (in_use m.depth) (live_frame m.depth m.frames) a p

-- a reference that passes its check, through registers that fit, passes by the one check or the other
passes : (m : Machine) → Fit m → (a : Access) (p : Pointer) → eqb (verdict m a p) 0 ≡ true
    → (by_static m (flag_of a) p.segment p.word || by_live m a p.segment p.word) ≡ true
unfolding verdict_of
passes m f a p e = by p.tag _ _ _ (live_same m f a p.segment p.word) e
  where
    by : (tag : Bool) (static through live : ℕ) → through ≡ live → eqb (if tag then through else static) 0 ≡ true → (eqb static 0 || eqb live 0) ≡ true
    by true static through live q e = or_right (eqb static 0) (eqb live 0) (ap (λ (n : ℕ). eqb n 0) (sym q) ∙ e)
    by false static through live q e = or_left (eqb static 0) (eqb live 0) e

-- the domain may see what it may execute, and what it may read by either check
module _ (m : Machine) (s k : ℕ) where
  executes : by_static m flag.Execute s k ≡ true → may_see m s k ≡ true
  unfolding may_see
  executes e = or_left (by_static m flag.Execute s k) _ e

  reads : (by_static m flag.Read s k || by_live m access.Read s k) ≡ true → may_see m s k ≡ true
  unfolding may_see
  reads e = simp (e, or-true)

-- memories that agree give the same reader and the same fetched word
module _ (m : Machine) (f : Fit m) (w v : List ℕ) (h : Agree m w v) where
  looks : (n s k : ℕ) → (eqb n 0 ≡ true → may_see m s k ≡ true)
      → (accept n (place m s k) >>= (λ i. ok (get_or w i 0))) ≡ (accept n (place m s k) >>= (λ i. ok (get_or v i 0)))
  looks n s k sees = by (eqb n 0) sees
    where
      by : (t : Bool) → (t ≡ true → may_see m s k ≡ true)
          → ((if t then ok (place m s k) else refuse n) >>= (λ i. ok (get_or w i 0))) ≡ ((if t then ok (place m s k) else refuse n) >>= (λ i. ok (get_or v i 0)))
      by true sees = ap ok (h s k (sees refl))
      by false sees = refl

  pub same-reader : read_word m w ≡ read_word m v
  unfolding read_word read_of reference_of
  same-reader = fun_ext (λ p. looks (verdict m access.Read p) p.segment p.word (λ e. reads m p.segment p.word (passes m f access.Read p e)))

  pub same-fetch : fetch m w ≡ fetch m v
  unfolding fetch fetch_of locate_of
  same-fetch =
      let s = m.registers.segment in
      let k = m.registers.word in
      looks (static_of m.layout.lengths m.layout.rights m.registers.domain flag.Execute s k) s k (executes m s k)

-- a reference that passes its check for W: it gives the index of its word, and the domain could write that word
pub target : (m : Machine) → Fit m → (p : Pointer) (i : ℕ) → check m access.Write p ≡ ok i
    → (i ≡ place m p.segment p.word) × (could_write m p.segment p.word ≡ true)
unfolding check reference_of could_write
target m f p i e = by (eqb (verdict m access.Write p) 0) refl e
  where
    by : (t : Bool) → eqb (verdict m access.Write p) 0 ≡ t
        → (if t then ok (place m p.segment p.word) else refuse (verdict m access.Write p)) ≡ ok i
        → (i ≡ place m p.segment p.word) × (could_write m p.segment p.word ≡ true)
    by true q e = (cc, passes m f access.Write p q)
    by false q e = absurd (let z : ◌≡◌ {A = ℕ} 0 1 = cc in omega arith)
