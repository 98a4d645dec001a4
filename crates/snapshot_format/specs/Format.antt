-- Formats: values in a fixed number of bytes. Each is described once, for what is written, what is read and what is refused.
use Rattle.std.specs.Prelude.{ℕ, ◌+◌, ◌*◌, ◌-◌, ◌/◌, ◌%◌, Bool, true, ◌&&◌, List, [], ◌∷◌, ◌++◌, eqb, leb, ltb, get_or, take, replicate, if◌then◌else◌}
use Rattle.words.specs.Bit.{bit}
use Rattle.image_format.specs.Bytes.{joined}
use Rattle.layout_soundness.specs.SoundLayout.{all_from}
use Rattle.snapshot_format.specs.Tabulate.{tabulate}

-- how many bytes; those of a value; the value that bytes hold from a place on; and whether these are the bytes of some value
pub record Format (A : Type 0) : Type 0 where
  pub size : ℕ
  pub bytes : A → List ℕ
  pub value : List ℕ → ℕ → A
  pub proper : List ℕ → ℕ → Bool

abbrev pub byte_form : Format ℕ
byte_form = record { size = 1; bytes = λ n. n ∷ []; value = λ b i. get_or b i 0; proper = λ b i. true }

-- the low byte first
abbrev pub pair_form : Format ℕ
pair_form =
    record { size = 2; bytes = λ n. n % 256 ∷ n / 256 ∷ []; value = λ b i. get_or b i 0 + get_or b (i + 1) 0 * 256; proper = λ b i. true }

-- 0 or 1
abbrev pub flag_form : Format Bool
flag_form =
    record { size = 1; bytes = λ t. bit t ∷ []; value = λ b i. eqb (get_or b i 0) 1; proper = λ b i. leb (get_or b i 0) 1 }

-- one value after the other
abbrev pub ◌then◌ : {A B : Type 0} → Format A → Format B → Format (A × B)
f then g =
    record {
      size = f.size + g.size;
      bytes = λ p. f.bytes p.0 ++ g.bytes p.1;
      value = λ b i. (f.value b i, g.value b (i + f.size));
      proper = λ b i. f.proper b i && g.proper b (i + f.size);
    }

infixr 6 ◌then◌
-- a value, and its parts in the order of the bytes
pub record Shape (A B : Type 0) : Type 0 where
  pub whole : A → B
  pub parts : B → A

-- the bytes of a value are those of its parts
abbrev pub seen_as : {A B : Type 0} → Shape A B → Format A → Format B
seen_as v f =
    record { size = f.size; bytes = λ y. f.bytes (v.parts y); value = λ b i. v.whole (f.value b i); proper = f.proper }

-- the low pair first
abbrev pub quad_shape : Shape (ℕ × ℕ) ℕ
quad_shape = record { whole = λ p. p.0 + p.1 * 65536; parts = λ n. (n % 65536, n / 65536) }

abbrev pub quad_form : Format ℕ
quad_form = seen_as quad_shape (pair_form then pair_form)

-- n values in a row
abbrev pub rows_of : {A : Type 0} → ℕ → Format A → Format (List A)
rows_of n f =
    record {
      size = n * f.size;
      bytes = joined f.bytes;
      value = λ b i. tabulate n (λ k. f.value b (i + k * f.size));
      proper = λ b i. all_from n 0 (λ k. f.proper b (i + k * f.size));
    }

-- whether the n bytes from a place on are zero
abbrev pub zeros : List ℕ → ℕ → ℕ → Bool
zeros b i n = all_from n i (λ k. eqb (get_or b k 0) 0)

-- a byte that tells how many of n rows are in use, these rows, and zeros; a row not in use holds none
abbrev pub counted : {A : Type 0} → ℕ → A → Format A → Format (ℕ × List A)
counted n none f =
    record {
      size = 1 + n * f.size;
      bytes = λ p. p.0 ∷ (joined f.bytes (take p.0 p.1) ++ replicate ((n - p.0) * f.size) 0);
      value = λ b i. (get_or b i 0, tabulate n (λ k. if ltb k (get_or b i 0) then f.value b (i + 1 + k * f.size) else none));
      proper = λ b i.
          leb (get_or b i 0) n && (all_from (get_or b i 0) 0 (λ k. f.proper b (i + 1 + k * f.size)) &&
          zeros b (i + 1 + get_or b i 0 * f.size) ((n - get_or b i 0) * f.size));
    }
