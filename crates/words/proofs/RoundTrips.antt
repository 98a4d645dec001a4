-- Packing a pointer and unpacking its word, both ways round.
use Rattle.std.proofs.Common.{◌≡◌, ℕ, zero, suc, ◌+◌, ◌*◌, ◌%◌, ◌^◌, ◌<◌, Bool, true, false, eqb, sym, refl, ◌∙◌, mod-eq_of_lt, arith, eqb-true}
use Rattle.words.specs.Answer.{ok, ◌>>◌, require}
use Rattle.words.specs.Field.{field}
use Rattle.words.specs.Bit.{bit}
use Rattle.words.specs.PointerWord.{pointer_word, pointer_of}
use Rattle.words.specs.declared.pointer.Pointer.{Pointer}
use Rattle.words.proofs.Fields.{field_of, field-low, fields-sum, field_lt}
use Rattle.words.specs.Statements.{UnpackPacked, PackUnpacked}

bit-lt : (t : Bool) → bit t < 2 ^ 1
bit-lt true = omega arith
bit-lt false = omega arith

bit-on : (t : Bool) → eqb (bit t) 1 ≡ t
bit-on true = refl
bit-on false = refl

on_bit : (n : ℕ) → n < 2 ^ 1 → bit (eqb n 1) ≡ n
on_bit zero h = refl
on_bit (suc zero) h = refl
on_bit (suc (suc n)) h = absurd (omega arith)

-- the pointer in the word that holds a pointer is that pointer
module _ (p : Pointer) (hw : p.word < 2 ^ 12) (hs : p.segment < 2 ^ 4) where
  abbrev t : ℕ
  t = bit p.tag

  abbrev s : ℕ
  s = p.segment

  abbrev w : ℕ
  w = p.word

  word-is : pointer_word p ≡ t * 2 ^ 31 + s * 2 ^ 12 + w
  unfolding pointer_word
  word-is = rw (mod-eq_of_lt hs, mod-eq_of_lt hw)

  whole : (k n lo x hi : ℕ) → lo < 2 ^ k → x < 2 ^ n → pointer_word p ≡ (hi * 2 ^ n + x) * 2 ^ k + lo → field k n (pointer_word p) ≡ x
  whole k n lo x hi hlo hx e = rw e (field_of k n lo x hi hlo hx)

  unpacked : pointer_of (pointer_word p) ≡ ok p
  unfolding pointer_of
  unpacked =
      let ht : t < 2 = bit-lt p.tag in
      let e = word-is in
      rw (
        whole 16 15 (s * 2 ^ 12 + w) 0 t (omega arith) (omega arith) (omega arith),
        whole 0 12 0 w (t * 2 ^ 19 + s) (omega arith) hw (omega arith),
        whole 12 4 w s (t * 2 ^ 15) hw hs (omega arith),
        whole 31 1 (s * 2 ^ 12 + w) t 0 (omega arith) ht (omega arith),
        bit-on p.tag,
      )

pub unpack-packed : UnpackPacked
unpack-packed p hw hs = unpacked p hw hs

-- what a word whose bits 16-30 are 0 is read as
abbrev found : ℕ → Pointer
found w = record { word = field 0 12 w; segment = field 12 4 w; tag = eqb (field 31 1 w) 1 }

-- the fields of a word, from the highest down, add up to it
assembled : (n f31 f16 f12 f0 m31 m16 m12 : ℕ) → f16 ≡ 0 → n ≡ f31 * 2 ^ 31 + m31 → m31 ≡ f16 * 2 ^ 16 + m16 → m16 ≡ f12 * 2 ^ 12 + m12 → m12 ≡ f0
    → f31 * 2 ^ 31 + f12 * 2 ^ 12 + f0 ≡ n
assembled n f31 f16 f12 f0 m31 m16 m12 z a b c d = omega arith

packed : (n : ℕ) → n < 2 ^ 32 → field 16 15 n ≡ 0 → pointer_word (found n) ≡ n
unfolding pointer_word
packed n h z =
    rw (on_bit (field 31 1 n) (field_lt 31 1 n), mod-eq_of_lt (field_lt 12 4 n), mod-eq_of_lt (field_lt 0 12 n))
    (assembled n (field 31 1 n) (field 16 15 n) (field 12 4 n) (field 0 12 n) (n % 2 ^ 31) (n % 2 ^ 16) (n % 2 ^ 12) z
    (sym (mod-eq_of_lt h) ∙ fields-sum 31 1 n) (fields-sum 16 15 n) (fields-sum 12 4 n) (field-low 12 n))

-- a word whose pointer is packed again is that word
pub pack-unpacked : PackUnpacked
unfolding pointer_of
pack-unpacked w p h e = by (eqb (field 16 15 w) 0) refl e
  where
    by : (t : Bool) → eqb (field 16 15 w) 0 ≡ t → require t 26 >> ok (found w) ≡ ok p → pointer_word p ≡ w
    by true z e = let q : found w ≡ p = cc in rw (← q) (packed w h (eqb-true _ _ z))
    by false z e = absurd (let q : ◌≡◌ {A = ℕ} 0 1 = cc in omega arith)
