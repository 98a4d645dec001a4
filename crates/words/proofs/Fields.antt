-- Laws of fields: a mask of ones takes a field out, and a word is the sum of its fields.
use Rattle.std.proofs.Common.{◌≡◌, ℕ, zero, suc, ◌+◌, ◌-◌, ◌*◌, ◌/◌, ◌%◌, ◌^◌, ◌<◌, sym, ◌∙◌, mod-lt, one-mul, pow-suc, div-one, arith, lit<, pow_pos, shl_exact}
use lib.Bits.{bit_and, bit_or, and_mask, and_step, and_zero_l, or_shifted}
use lib.Pow.{high, low, mod-pow-add}
use Rattle.words.specs.Field.{field, common}

-- 1 shifted up by less than the width of a word
pub power : (k : ℕ) → k < 32 → 1 * 2 ^ k % 2 ^ 32 ≡ 2 ^ k
power k h = shl_exact {a = 1} 1 k 32 (lit< tt) (omega arith) ∙ one-mul (2 ^ k)

-- ones in the lowest bits take the field that starts there
pub masked : (low width word : ℕ) → bit_and (word / 2 ^ low) (2 ^ width - 1) ≡ field low width word
unfolding field
masked low width word = and_mask (word / 2 ^ low) width

pub field_lt : (low width word : ℕ) → field low width word < 2 ^ width
unfolding field
field_lt low width word = mod-lt (word / 2 ^ low) (pow_pos width)

-- the bits that two words have in common are those of the processor's and
pub common-and : (n a b : ℕ) → a < 2 ^ n → common n a b ≡ bit_and a b
unfolding common
common-and zero a b h = let z : a ≡ 0 = omega arith in rw z (sym (and_zero_l b))
common-and (suc n) a b h =
    rw (common-and n (a / 2) (b / 2) (half n a h)) (sym (and_step a b))
  where
    half : (n a : ℕ) → a < 2 ^ suc n → a / 2 < 2 ^ n
    half n a h = omega (arith, pow-suc 2 n, h)

-- three fields put together with shifts and ors
pub joined : (t s w : ℕ) → t < 2 ^ 1 → s < 2 ^ 4 → w < 2 ^ 12
    → bit_or (bit_or (t * 2 ^ 31 % 2 ^ 32) (s * 2 ^ 12 % 2 ^ 32)) w ≡ t * 2 ^ 31 + s * 2 ^ 12 + w
joined t s w ht hs hw =
    let e : t * 2 ^ 31 + s * 2 ^ 12 ≡ (t * 2 ^ 19 + s) * 2 ^ 12 = omega arith in
    rw (shl_exact {a = t} 1 31 32 ht (omega arith), shl_exact {a = s} 4 12 32 hs (omega arith), or_shifted t 31 (s * 2 ^ 12) (omega arith), e)
    (or_shifted (t * 2 ^ 19 + s) 12 w hw)

-- the field of a sum of a field, what lies below it and what lies above it
pub field_of : (k n lo x hi : ℕ) → lo < 2 ^ k → x < 2 ^ n → field k n ((hi * 2 ^ n + x) * 2 ^ k + lo) ≡ x
unfolding field
field_of k n lo x hi hlo hx = rw (high (hi * 2 ^ n + x) k hlo, low hi n hx)

-- the bits below k + n are those below k and the field of n bits from k up
pub fields-sum : (k n w : ℕ) → w % 2 ^ (n + k) ≡ field k n w * 2 ^ k + w % 2 ^ k
unfolding field
fields-sum k n w = mod-pow-add w n k

-- the field at the bottom
pub field-low : (n w : ℕ) → w % 2 ^ n ≡ field 0 n w
unfolding field
field-low n w = rw (div-one w)
