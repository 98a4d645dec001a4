-- What stands in the columns after a row is put in.
use Prim.Native.Nat.{ℕ, zero, suc, ◌+◌, ◌*◌, ◌<◌, ◌≤◌}
use native.Mathlib.Omega.{arith}
use mathlib.Core.List.{List, [], ◌∷◌}
use mathlib.Core.Path.{◌≡◌, refl, ap, ◌∙◌}
use lib.ListN.{length, get_or, set, length-set}
use lib.Seq.{get_or-set_same, get_or-set_other}
use Rattle.lent_registers.specs.Private.{put_from}

pub put-length : (xs : List ℕ) (i c : ℕ) (vs : List ℕ) → length (put_from xs i c vs) ≡ length xs
put-length xs i c [] = refl
put-length xs i c (v ∷ vs) = put-length (set xs (16 * c + i) v) i (c + 1) vs ∙ length-set xs (16 * c + i) v

-- columns before the first that is written
pub put_under : (xs : List ℕ) (i c j : ℕ) (vs : List ℕ) → j < 16 * c → get_or (put_from xs i c vs) j 0 ≡ get_or xs j 0
put_under xs i c j [] h = refl
put_under xs i c j (v ∷ vs) h =
    put_under (set xs (16 * c + i) v) i (c + 1) j vs (omega (arith, h)) ∙ get_or-set_other xs (16 * c + i) j v 0 (λ q. omega (arith, q, h))

-- another row
pub put_other : (xs : List ℕ) (i c d k : ℕ) (vs : List ℕ) → i < 16 → k < 16 → (k ≡ i → ⊥) → get_or (put_from xs i c vs) (16 * d + k) 0 ≡ get_or xs (16 * d + k) 0
put_other xs i c d k [] h l ne = refl
put_other xs i c d k (v ∷ vs) h l ne =
    put_other (set xs (16 * c + i) v) i (c + 1) d k vs h l ne ∙ get_or-set_other xs (16 * c + i) (16 * d + k) v 0 (λ q. ne (omega (arith, q, h, l)))

-- the row itself
pub put_same : (xs : List ℕ) (i c j : ℕ) (vs : List ℕ) → i < 16 → 16 * (c + length vs) ≤ length xs → j < length vs
    → get_or (put_from xs i c vs) (16 * (c + j) + i) 0 ≡ get_or vs j 0
put_same xs i c j [] h l m = absurd (omega (arith, m))
put_same xs i c zero (v ∷ vs) h l m =
    ap (λ (k : ℕ). get_or (put_from (set xs (16 * c + i) v) i (c + 1) vs) k 0) (omega arith) ∙
    put_under (set xs (16 * c + i) v) i (c + 1) (16 * c + i) vs (omega (arith, h)) ∙
    get_or-set_same xs (16 * c + i) v 0 (omega (arith, h, l))
put_same xs i c (suc j) (v ∷ vs) h l m =
    ap (λ (k : ℕ). get_or (put_from (set xs (16 * c + i) v) i (c + 1) vs) k 0) (omega arith) ∙
    put_same (set xs (16 * c + i) v) i (c + 1) j vs h (rw length-set (omega (arith, l))) (omega (arith, m))
