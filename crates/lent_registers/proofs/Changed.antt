-- The registers in columns: one register changed, and all of them, one after the other.
use Rattle.std.specs.Prelude.{if◌then◌else◌}
use Prim.Native.Nat.{ℕ, ◌+◌, ◌*◌, ◌<◌, ◌≤◌, ◌%◌, ◌/◌}
use native.Mathlib.Omega.{arith}
use mathlib.Core.Bool.{Bool, true, false}
use mathlib.Core.List.{List}
use mathlib.Core.Path.{◌≡◌, refl, ap, ◌∙◌}
use borrow.Author.Tests.{eqb-true, eqb-false}
use lib.Dec.{eqb}
use lib.ListN.{length, get_or, set, length-set}
use lib.Seq.{get_or-set_same, get_or-set_other}
use Rattle.words.specs.Bit.{bit}
use Rattle.state.specs.declared.record.Register.{Register}
use Rattle.recent.specs.Registers.{numbered}
use Rattle.lent_registers.specs.Columns.{register_at}
use Rattle.lent_registers.specs.Private.{put_from, row_of, put_at}
use Rattle.lent_registers.proofs.Rows.{put_under, put_other, put_same}

-- only register i of xs is changed in ys, by f
abbrev pub Only : ℕ → (Register → Register) → List ℕ → List ℕ → Type 0
Only i f xs ys = (k : ℕ) → k < 16 → register_at ys k ≡ (if eqb k i then f (register_at xs k) else register_at xs k)

module _ (xs : List ℕ) (room : length xs ≡ 160) (i : ℕ) (h : i < 16) where
  -- another number
  pub only-number : (n : ℕ) → Only i (λ r. numbered r n) xs (set xs i n)
  unfolding register_at
  only-number n k l = by (eqb k i) refl
    where
      past : (c : ℕ) → 1 ≤ c → get_or (set xs i n) (16 * c + k) 0 ≡ get_or xs (16 * c + k) 0
      past c one = get_or-set_other xs i (16 * c + k) n 0 (λ q. omega (arith, q, h, one))

      at : (x : ℕ) → get_or (set xs i n) k 0 ≡ x
          → register_at (set xs i n) k ≡ numbered (register_at xs k) x
      at x e = rw (e, past 1 (omega arith), past 2 (omega arith), past 3 (omega arith), past 4 (omega arith), past 5 (omega arith), past 6 (omega arith), past 7 (omega arith), past 8 (omega arith), past 9 (omega arith))

      by : (t : Bool) → eqb k i ≡ t → register_at (set xs i n) k ≡ (if t then numbered (register_at xs k) n else register_at xs k)
      by true e = at n (ap (λ (j : ℕ). get_or (set xs i n) j 0) (eqb-true k i e) ∙ get_or-set_same xs i n 0 (omega (arith, room, h)))
      by false e = at (get_or xs k 0) (get_or-set_other xs i k n 0 (eqb-false k i e))

  -- another register
  pub only-put : (r : Register) → Only i (λ old. r) xs (put_at xs i r)
  unfolding put_at register_at
  only-put r k l = by (eqb k i) refl
    where
      ys : List ℕ
      ys = set xs i r.recency

      zs : List ℕ
      zs = put_from ys i 1 (row_of r)

      first : (j : ℕ) → j < 16 → get_or zs j 0 ≡ get_or ys j 0
      first j m = put_under ys i 1 j (row_of r) (omega (arith, m))

      at : (j : ℕ) → j < 9 → get_or zs (16 * (1 + j) + i) 0 ≡ get_or (row_of r) j 0
      at j m = put_same ys i 1 j (row_of r) h (rw length-set (omega (arith, room))) m

      past : (k ≡ i → ⊥) → (c : ℕ) → 1 ≤ c → get_or zs (16 * c + k) 0 ≡ get_or xs (16 * c + k) 0
      past ne c one = put_other ys i 1 c k (row_of r) h l ne ∙ get_or-set_other xs i (16 * c + k) r.recency 0 (λ q. omega (arith, q, h, one))

      flag : (b : Bool) → eqb (bit b) 1 ≡ b
      flag true = refl
      flag false = refl

      whole : (w : ℕ) → w % 256 + 256 * (w / 256) ≡ w
      whole w = omega arith

      same : register_at zs i ≡ r
      same =
          rw (
            first i h ∙ get_or-set_same xs i r.recency 0 (omega (arith, room, h)),
            at 0 (omega arith),
            at 1 (omega arith),
            at 2 (omega arith),
            at 3 (omega arith),
            at 4 (omega arith),
            at 5 (omega arith),
            at 6 (omega arith),
            at 7 (omega arith),
            at 8 (omega arith),
            flag r.capability.read,
            flag r.capability.write,
            whole r.capability.word,
            whole r.capability.length,
          )

      by : (t : Bool) → eqb k i ≡ t → register_at zs k ≡ (if t then r else register_at xs k)
      by true e = ap (λ (j : ℕ). register_at zs j) (eqb-true k i e) ∙ same
      by false e =
          let ne = eqb-false k i e in
          rw (
            first k l ∙ get_or-set_other xs i k r.recency 0 ne,
            past ne 1 (omega arith),
            past ne 2 (omega arith),
            past ne 3 (omega arith),
            past ne 4 (omega arith),
            past ne 5 (omega arith),
            past ne 6 (omega arith),
            past ne 7 (omega arith),
            past ne 8 (omega arith),
            past ne 9 (omega arith),
          )
