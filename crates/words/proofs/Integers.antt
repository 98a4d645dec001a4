-- Integers at the limits of a word number.
use Rattle.std.specs.Prelude.{if◌then◌else◌}
use Rattle.std.proofs.Common.{◌≡◌, ℕ, suc, ◌+◌, ◌-◌, ◌%◌, ◌^◌, ◌<◌, ◌≤◌, Bool, true, false, T, ltb, ℤ, pos, negsuc, ◌+ℤ◌, nat_abs, sym, refl, ap, mod-eq_of_lt, arith, ltb-false, ltb-true, le-ltb, lt-ltb, le-leb}
use borrow.Author.Tests.{lt-leb}
use lib.IntN.{sub_ℕ}
use lib.Signed.{mag, lt_z, non_neg}
use Rattle.words.specs.Answer.{refuse, ok}
use Rattle.words.specs.Offset.{in_range, displaced_of, literal_of}

pub never : {A : Type 0} → false ≡ true → A
never e = absurd (let z : ◌≡◌ {A = ℕ} 0 1 = ap (λ (t : Bool). if t then 1 else 0) e in omega arith)

-- a difference of two numbers up to k
pub sub-mag : (k a b : ℕ) → a < k → b ≤ k → mag (sub_ℕ a b) < k
sub-mag k a b ha hb = by (ltb a b) refl
  where
    by : (t : Bool) → ltb a b ≡ t → mag (sub_ℕ a b) < k
    by true e = simp e (let h : a < b = ltb-true a b e in omega arith)
    by false e = simp e (omega arith)

-- a number less a larger one, and less one that is not larger
pub sub-below : (a b : ℕ) → a < b → sub_ℕ a b ≡ negsuc (b - suc a)
sub-below a b h = simp (lt-ltb a b h)

pub sub-above : (a b : ℕ) → b ≤ a → sub_ℕ a b ≡ pos (a - b)
sub-above a b h = simp (le-ltb a b h)

-- a word number plus an offset so low that the sum is negative
pub too-low : (w : ℕ) (z : ℤ) → w < 65536 → lt_z z (negsuc 65534) ≡ true → displaced_of w z ≡ refuse 23
unfolding displaced_of
too-low w (pos n) h t = never t
too-low w (negsuc n) h t = let g : 65534 < n = ltb-true 65534 n t in rw (sub-below w (suc n) (omega arith))

-- a word number plus an offset that is too high by itself
pub too-high : (w : ℕ) (z : ℤ) → lt_z (pos 4095) z ≡ true → displaced_of w z ≡ refuse 23
unfolding displaced_of
too-high w (pos n) t = let g : 4095 < n = ltb-true 4095 n t in simp (lt-leb (w + n) 4095 (omega arith))
too-high w (negsuc n) t = never t

-- between the two the sum is small
pub sum-small : (w : ℕ) (z : ℤ) → w < 65536 → lt_z z (negsuc 65534) ≡ false → lt_z (pos 4095) z ≡ false → mag (pos w +ℤ z) < 2 ^ 31
sum-small w (pos n) h a b = let g : n ≤ 4095 = ltb-false 4095 n b in omega arith
sum-small w (negsuc n) h a b = let g : n ≤ 65534 = ltb-false 65534 n a in sub-mag (2 ^ 31) w (suc n) (omega arith) (omega arith)

-- a sum below 0, a sum above 4,095, and any other
pub negative : (z : ℤ) → lt_z z (pos 0) ≡ true → in_range z ≡ refuse 23
negative (pos n) t = let g : n < 0 = ltb-true n 0 t in absurd (omega arith)
negative (negsuc n) t = refl

pub above : (z : ℤ) → lt_z (pos 4095) z ≡ true → in_range z ≡ refuse 23
above (pos n) t = simp (lt-leb n 4095 (ltb-true 4095 n t))
above (negsuc n) t = never t

pub record Inside (z : ℤ) : Type 0 where
  pub positive : T (non_neg z)
  pub most : nat_abs z ≤ 4095
  pub value : in_range z ≡ ok (nat_abs z)

pub inside : (z : ℤ) → lt_z z (pos 0) ≡ false → lt_z (pos 4095) z ≡ false → Inside z
inside (pos n) a b = let g : n ≤ 4095 = ltb-false 4095 n b in record { positive = tt; most = g; value = simp (le-leb n 4095 g) }
inside (negsuc n) a b = never (sym a)

-- an offset modulo 2^32
pub wrapped : (z : ℤ) → mag z < 2 ^ 31 → lt_z z (pos 0) ≡ true → pos (literal_of z) ≡ z +ℤ pos (2 ^ 32)
unfolding literal_of
wrapped (pos n) h t = let g : n < 0 = ltb-true n 0 t in absurd (omega arith)
wrapped (negsuc n) h t =
    rw (sub-above (2 ^ 32) (suc n) (omega arith))
    (ap pos (let m : n % 2 ^ 32 ≡ n = mod-eq_of_lt (omega arith) in omega arith))

pub kept : (z : ℤ) → mag z < 2 ^ 31 → lt_z z (pos 0) ≡ false → pos (literal_of z) ≡ z
unfolding literal_of
kept (pos n) h t = ap pos (mod-eq_of_lt (omega arith))
kept (negsuc n) h t = never (sym t)

pub literal-lt : (z : ℤ) → literal_of z < 2 ^ 32
unfolding literal_of
literal-lt (pos n) = omega arith
literal-lt (negsuc n) = omega arith
