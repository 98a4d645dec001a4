-- Flags and words as bytes.
use Prim.Native.Nat.{ℕ, ◌*◌, ◌%◌, ◌/◌, ◌<◌, ◌≤◌}
use native.Mathlib.Omega.{arith}
use mathlib.Core.Bool.{Bool, true, false}
use mathlib.Core.Path.{◌≡◌, refl}
use mir.Val.{bool_byte}
use Rattle.words.specs.Bit.{bit}

pub byte-bit : (b : Bool) → bool_byte b ≡ bit b
byte-bit true = refl
byte-bit false = refl

pub bit-most : (b : Bool) → bit b ≤ 1
bit-most true = omega arith
bit-most false = omega arith

-- the high byte of a word
pub high-byte : (w : ℕ) → w < 65536 → (w / 256) % 256 ≡ w / 256
high-byte w h = omega (arith, h)

pub times : (n : ℕ) → n * 256 ≡ 256 * n
times n = omega arith
