-- The recency numbers after a return are ranks: different, at most 15, and in the order of the places.
use Rattle.std.specs.Prelude.{if◌then◌else◌}
use Prim.Native.Nat.{ℕ, suc, ◌+◌, ◌<◌, ◌≤◌}
use native.Mathlib.Omega.{arith}
use mathlib.Core.Bool.{Bool, true, false}
use mathlib.Core.List.{List, [], ◌∷◌}
use mathlib.Core.Path.{◌≡◌, refl, sym, ◌∙◌}
use borrow.Author.Tests.{ltb-true, ltb-false, lt-ltb, le-ltb}
use lib.Dec.{eqb, ltb}
use lib.ListN.{length}
use Rattle.words.specs.Bit.{bit}
use Rattle.state.specs.declared.record.Register.{Register}
use Rattle.state.specs.Record.{no_capability}
use Rattle.recent.specs.Registers.{register, numbered, order_of, before, cleared_in, cleared}
use Rattle.recent.specs.Statements.{is_of, comes_before}
use Rattle.recent.proofs.Logic.{strict}
use Rattle.recent.proofs.Numbers.{Every, Numbers, bounded, renumbered}
use Rattle.recent.proofs.Most.{bit_le, at_most}

-- one number is below j, so below k
bit-mono : (n j k : ℕ) → j ≤ k → bit (ltb n j) ≤ bit (ltb n k)
bit-mono n j k l = by (ltb n j) refl
  where
    by : (t : Bool) → ltb n j ≡ t → bit t ≤ bit (ltb n k)
    by true e = rw (lt-ltb n k (let h = ltb-true n j e in omega (arith, h, l))) (omega arith)
    by false e = omega arith

shifted : (n k : ℕ) (t : Bool) → ltb n k ≡ t → ltb (n + 16) (k + 16) ≡ t
shifted n k true e = let l = ltb-true n k e in lt-ltb (n + 16) (k + 16) (omega (arith, l))
shifted n k false e = let l = ltb-false n k e in le-ltb (n + 16) (k + 16) (omega (arith, l))

module _ (frame : ℕ) where
  -- the places are in the order that is asked for
  pub order-before : (r s : Register) → r.recency ≤ 15 → s.recency ≤ 15 → ltb (order_of frame r) (order_of frame s) ≡ comes_before frame r s
  unfolding order_of
  order-before r s a b = by (is_of frame r) refl (is_of frame s) refl
    where
      by : (t : Bool) → is_of frame r ≡ t → (u : Bool) → is_of frame s ≡ u → ltb (order_of frame r) (order_of frame s) ≡ comes_before frame r s
      by true e true f = rw (e, f) refl
      by true e false f = rw (e, f) (lt-ltb r.recency (s.recency + 16) (omega (arith, a)))
      by false e true f = rw (e, f) (le-ltb (r.recency + 16) s.recency (omega (arith, b)))
      by false e false f = rw (e, f) (shifted r.recency s.recency _ refl)

  -- the rank of a place: more registers come before a later place, and never more than there are
  before-mono : (j k : ℕ) → j ≤ k → (rs : List Register) → before frame j rs ≤ before frame k rs
  unfolding before
  before-mono j k l [] = omega arith
  before-mono j k l (r ∷ rs) = let a = bit-mono (order_of frame r) j k l in let b = before-mono j k l rs in omega (arith, a, b)

  before-length : (k : ℕ) (rs : List Register) → before frame k rs ≤ length rs
  unfolding before
  before-length k [] = omega arith
  before-length k (r ∷ rs) = let a = bit_le (ltb (order_of frame r) k) in let b = before-length k rs in omega (arith, a, b)

  -- a register of the list comes before the place after its own, and not before its own
  abbrev pub Stands : List Register → Register → Type 0
  Stands rs r = before frame (order_of frame r) rs < before frame (suc (order_of frame r)) rs

  more : (x : Register) (all rs : List Register) → Every (Stands all) rs → Every (Stands (x ∷ all)) rs
  unfolding before
  more x all [] e = tt
  more x all (r ∷ rs) e =
      let a = bit-mono (order_of frame x) (order_of frame r) (suc (order_of frame r)) (omega arith) in
      let h = e.0 in
      (omega (arith, a, h), more x all rs e.1)

  first : (r : Register) (rs : List Register) → Stands (r ∷ rs) r
  unfolding before
  first r rs =
      let n = order_of frame r in
      let b = before-mono n (suc n) (omega arith) rs in
      rw (le-ltb n n (omega arith), lt-ltb n (suc n) (omega arith)) (omega (arith, b))

  pub stand : (rs : List Register) → Every (Stands rs) rs
  stand [] = tt
  stand (r ∷ rs) = (first r rs, more r rs rs (stand rs))

  -- different numbers up to 15 have different places
  order-apart : (r s : Register) → r.recency ≤ 15 → s.recency ≤ 15 → order_of frame r ≡ order_of frame s → r.recency ≡ s.recency
  unfolding order_of
  order-apart r s a b e = by (eqb r.frame frame) (eqb s.frame frame) e
    where
      by : (t u : Bool) → (if t then r.recency else r.recency + 16) ≡ (if u then s.recency else s.recency + 16) → r.recency ≡ s.recency
      by true true e = e
      by true false e = absurd (omega (arith, a, e))
      by false true e = absurd (omega (arith, b, e))
      by false false e = omega (arith, e)

  module _ (all : List Register) where
    rank : (r : Register) → (cleared_in frame all r).recency ≡ before frame (order_of frame r) all
    rank r = by (eqb r.frame frame)
      where
        n : ℕ
        n = before frame (order_of frame r) all

        by : (t : Bool) → (if t then register no_capability 0 n else numbered r n).recency ≡ n
        by true = refl
        by false = refl

    -- ranks are as the places are
    pub ranks-order : (r s : Register) → Stands all r → Stands all s → ltb (cleared_in frame all r).recency (cleared_in frame all s).recency ≡ ltb (order_of frame r) (order_of frame s)
    ranks-order r s p q = rw (rank r, rank s) (by (ltb (order_of frame r) (order_of frame s)) refl)
      where
        by : (t : Bool) → ltb (order_of frame r) (order_of frame s) ≡ t → ltb (before frame (order_of frame r) all) (before frame (order_of frame s) all) ≡ t
        by true h =
            let m = before-mono (suc (order_of frame r)) (order_of frame s) (ltb-true _ _ h) all in
            lt-ltb (before frame (order_of frame r) all) (before frame (order_of frame s) all) (omega (arith, m, p))
        by false h = le-ltb (before frame (order_of frame r) all) _ (before-mono (order_of frame s) (order_of frame r) (ltb-false _ _ h) all)

    -- what is known of a register: its number, and that it stands in the list
    abbrev Known : Register → Type 0
    Known r = (r.recency ≤ 15) × Stands all r

    known : (rs : List Register) → Every (λ r. r.recency ≤ 15) rs → Every (Stands all) rs → Every Known rs
    known [] e f = tt
    known (r ∷ rs) e f = ((e.0, f.0), known rs e.1 f.1)

    lesser : (j k : ℕ) → j < k → before frame j all < before frame (suc j) all → before frame j all ≡ before frame k all → ⊥
    lesser j k l s e = let m = before-mono (suc j) k l all in omega (arith, s, m, e)

    apart : (r s : Register) → Known r → Known s → (r.recency ≡ s.recency → ⊥) → (cleared_in frame all r).recency ≡ (cleared_in frame all s).recency → ⊥
    apart r s p q ne e = by (ltb (order_of frame r) (order_of frame s)) refl
      where
        ranks : before frame (order_of frame r) all ≡ before frame (order_of frame s) all
        ranks = sym (rank r) ∙ e ∙ rank s

        by : (t : Bool) → ltb (order_of frame r) (order_of frame s) ≡ t → ⊥
        by true h = lesser (order_of frame r) (order_of frame s) (ltb-true _ _ h) p.1 ranks
        by false h =
            lesser (order_of frame s) (order_of frame r) (strict _ _ (ltb-false _ _ h) (λ x. ne (order-apart r s p.0 q.0 (sym x)))) q.1 (sym ranks)

    pub cleared-numbers : Numbers all → Numbers (cleared frame all)
    unfolding cleared
    cleared-numbers n = renumbered (cleared_in frame all) Known apart few all (known all (bounded all n) (stand all)) n
      where
        few : (r : Register) → Known r → (cleared_in frame all r).recency ≤ 15
        few r p = let a = before-length (suc (order_of frame r)) all in let l = at_most all n in let b = p.1 in rw (rank r) (omega (arith, a, b, l))
