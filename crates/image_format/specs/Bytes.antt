-- Little-endian numbers: what the first bytes of a list hold, and the bytes that hold a number.
use Rattle.std.specs.Prelude.{ℕ, zero, suc, ◌+◌, ◌*◌, ◌/◌, ◌%◌, List, [], ◌∷◌, ◌++◌, get_or, drop}

-- a number in two bytes
unfoldable pub pair_of : List ℕ → ℕ
pair_of bytes = get_or bytes 0 0 + get_or bytes 1 0 * 256

-- the two bytes of a number below 65,536
unfoldable pub pair_bytes : ℕ → List ℕ
pair_bytes n = n % 256 ∷ n / 256 % 256 ∷ []

-- a word, in four bytes
unfoldable pub word_of : List ℕ → ℕ
word_of bytes = pair_of bytes + pair_of (drop 2 bytes) * 65536

-- the four bytes of a word
unfoldable pub word_bytes : ℕ → List ℕ
word_bytes w = pair_bytes (w % 65536) ++ pair_bytes (w / 65536)

-- n words, one after the other
unfoldable pub words_of : ℕ → List ℕ → List ℕ
words_of zero bytes = []
words_of (suc n) bytes = word_of bytes ∷ words_of n (drop 4 bytes)

-- what each of a list's elements gives, one after the other
unfoldable pub joined : {A : Type 0} → (A → List ℕ) → List A → List ℕ
joined f [] = []
joined f (x ∷ xs) = f x ++ joined f xs

-- the bytes of words, one after the other
abbrev pub words_bytes : List ℕ → List ℕ
words_bytes = joined word_bytes
