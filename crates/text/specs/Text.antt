-- Printed text, in ASCII.
use Rattle.std.specs.Prelude.{ℕ, zero, suc, ◌+◌, ◌/◌, ◌%◌, List, [], ◌∷◌, ◌++◌, ltb, if◌then◌else◌}
use Prim.Native.Char.{code}
use Prim.Native.String.{String, [] as empty, ◌∷◌ as ◌then◌}

-- the codes of a text
abbrev pub text : String → List ℕ
text empty = []
text (c then s) = code c ∷ text s

-- the last k digits of a number, none in front of its first
unfoldable pub digits : ℕ → ℕ → List ℕ
digits zero n = []
digits (suc k) n = if ltb n 10 then (48 + n) ∷ [] else digits k (n / 10) ++ ((48 + n % 10) ∷ [])

-- a number in decimal; it has at most n + 1 digits
abbrev pub decimal : ℕ → List ℕ
decimal n = digits (suc n) n

-- a label and a number
abbrev pub labelled : List ℕ → ℕ → List ℕ
labelled label n = label ++ decimal n

-- a text with its line end
abbrev pub line : List ℕ → List ℕ
line xs = xs ++ (10 ∷ [])
