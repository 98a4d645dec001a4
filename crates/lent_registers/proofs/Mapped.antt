-- A loop that changes the registers one after the other; and the registers as a list.
use Rattle.std.specs.Prelude.{if◌then◌else◌}
use Prim.Native.Nat.{ℕ, zero, suc, ◌+◌, ◌-◌, ◌<◌, ◌≤◌}
use native.Mathlib.Omega.{arith}
use mathlib.Core.Bool.{Bool, true, false}
use mathlib.Core.List.{List, ◌∷◌, map}
use mathlib.Core.Path.{◌≡◌, refl, sym, ap, ◌∙◌}
use borrow.Author.Tests.{eqb-true, eqb-false, ltb-true, ltb-false, lt-ltb, le-ltb}
use lib.Dec.{eqb, ltb}
use lib.ListN.{length, get_or}
use lib.Seq.{ext_get_or}
use Rattle.state.specs.declared.record.Register.{Register}
use Rattle.state.specs.Record.{no_register}
use Rattle.lent_registers.specs.Columns.{register_at, registers_from, registers_of}
use Rattle.lent_registers.proofs.Changed.{Only}

pub strict : (a b : ℕ) → a ≤ b → (a ≡ b → ⊥) → a < b
strict a b l ne = to (ltb a b) refl
  where
    to : (t : Bool) → ltb a b ≡ t → a < b
    to true e = ltb-true a b e
    to false e = absurd (ne (let w = ltb-false a b e in omega (arith, w, l)))

-- the first i registers of xs are changed by f in ys
abbrev pub Mapped : (Register → Register) → ℕ → List ℕ → List ℕ → Type 0
Mapped f i xs ys = (k : ℕ) → k < 16 → register_at ys k ≡ (if ltb k i then f (register_at xs k) else register_at xs k)

module _ (f : Register → Register) (xs : List ℕ) where
  pub mapped-none : Mapped f 0 xs xs
  mapped-none k l = rw (le-ltb k 0 (omega arith))

  pub mapped_at : (i : ℕ) (ys : List ℕ) → Mapped f i xs ys → i < 16 → register_at ys i ≡ register_at xs i
  mapped_at i ys m h = m i h ∙ rw (le-ltb i i (omega arith))

  -- one more, changed by g, which is f there
  pub mapped_next : (i : ℕ) (ys zs : List ℕ) (g : Register → Register) → Mapped f i xs ys → i < 16 → Only i g ys zs
      → g (register_at ys i) ≡ f (register_at ys i) → Mapped f (i + 1) xs zs
  mapped_next i ys zs g m h only e k l = by (eqb k i) refl (only k l)
    where
      by : (t : Bool) → eqb k i ≡ t → register_at zs k ≡ (if t then g (register_at ys k) else register_at ys k)
          → register_at zs k ≡ (if ltb k (i + 1) then f (register_at xs k) else register_at xs k)
      by true q o =
          let s = eqb-true k i q in
          rw (lt-ltb k (i + 1) (omega (arith, s))) (o ∙ ap (λ (j : ℕ). g (register_at ys j)) s ∙ e ∙ ap f (mapped_at i ys m h ∙ ap (register_at xs) (sym s)))
      by false q o = less (ltb k i) refl (o ∙ m k l)
        where
          less : (u : Bool) → ltb k i ≡ u → register_at zs k ≡ (if u then f (register_at xs k) else register_at xs k)
              → register_at zs k ≡ (if ltb k (i + 1) then f (register_at xs k) else register_at xs k)
          less true v p = rw (lt-ltb k (i + 1) (let w = ltb-true k i v in omega (arith, w))) p
          less false v p = rw (le-ltb k (i + 1) (let w = ltb-false k i v in let ne = eqb-false k i q in let v2 = strict i k w (λ x. ne (sym x)) in omega (arith, v2))) p

  from : (ys : List ℕ) → Mapped f 16 xs ys → (n i : ℕ) → i + n ≤ 16 → registers_from ys n i ≡ map f (registers_from xs n i)
  from ys m zero i h = refl
  from ys m (suc n) i h = λ j. at j ∷ from ys m n (i + 1) (omega (arith, h)) j
    where
      at : register_at ys i ≡ f (register_at xs i)
      at = m i (omega (arith, h)) ∙ ap (λ (t : Bool). if t then f (register_at xs i) else register_at xs i) (lt-ltb i 16 (omega (arith, h)))

  -- all of them
  pub mapped-all : (ys : List ℕ) → Mapped f 16 xs ys → registers_of ys ≡ map f (registers_of xs)
  unfolding registers_of
  mapped-all ys m = from ys m 16 0 (omega arith)

-- from register i on
pub from_next : (xs : List ℕ) (i : ℕ) → i < 16 → registers_from xs (16 - i) i ≡ register_at xs i ∷ registers_from xs (16 - (i + 1)) (i + 1)
from_next xs i h = ap (λ (n : ℕ). registers_from xs n i) (the-next i h)
  where
    the-next : (i : ℕ) → i < 16 → 16 - i ≡ suc (16 - (i + 1))
    the-next i h = omega (arith, h)

module _ (xs : List ℕ) where
  from-length : (n i : ℕ) → length (registers_from xs n i) ≡ n
  from-length zero i = refl
  from-length (suc n) i = ap suc (from-length n (i + 1))

  from_at : (n i k : ℕ) → k < n → get_or (registers_from xs n i) k no_register ≡ register_at xs (i + k)
  from_at zero i k h = absurd (omega (arith, h))
  from_at (suc n) i zero h = ap (register_at xs) (omega arith)
  from_at (suc n) i (suc k) h = from_at n (i + 1) k (omega (arith, h)) ∙ ap (register_at xs) (omega arith)

  pub registers-length : length (registers_of xs) ≡ 16
  unfolding registers_of
  registers-length = from-length 16 0

  pub registers-at : (k : ℕ) → k < 16 → get_or (registers_of xs) k no_register ≡ register_at xs k
  unfolding registers_of
  registers-at k h = from_at 16 0 k h ∙ ap (register_at xs) (omega arith)

  -- a list of sixteen that has them
  pub registers-are : (rs : List Register) → length rs ≡ 16 → ((k : ℕ) → k < 16 → get_or rs k no_register ≡ register_at xs k) → rs ≡ registers_of xs
  registers-are rs room e =
      ext_get_or no_register rs (registers_of xs) (room ∙ sym registers-length) (λ k h. e k (omega (arith, h, room)) ∙ sym (registers-at k (omega (arith, h, room))))
