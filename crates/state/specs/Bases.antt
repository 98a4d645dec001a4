-- Where the segments lie in the memory: one after the other, segment 0 first.
use Rattle.std.specs.Prelude.{ℕ, zero, suc, ◌+◌, List, [], ◌∷◌, take}

abbrev pub total : List ℕ → ℕ
total [] = 0
total (n ∷ ns) = n + total ns

-- how many words lie before a segment
unfoldable pub base_of : List ℕ → ℕ → ℕ
base_of lengths segment = total (take segment lengths)

-- how many words there are
abbrev pub words_in : List ℕ → ℕ
words_in lengths = base_of lengths 16

-- the bases of the n segments from segment i on
abbrev pub bases_from : List ℕ → ℕ → ℕ → List ℕ
bases_from lengths i zero = []
bases_from lengths i (suc n) = base_of lengths i ∷ bases_from lengths (suc i) n

-- the bases of all segments
unfoldable pub bases_of : List ℕ → List ℕ
bases_of lengths = bases_from lengths 0 16
