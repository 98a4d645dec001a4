-- An image whose first instruction is a call through a gate.
use Rattle.std.specs.Prelude.{ℕ, List, [], ◌∷◌}

-- Two domains. Domain 0 reads and executes segment 0, and has G on segment 1. Of segment 1's one word, LIT 7, so many are gates into
-- domain 1, which has these rights on it. Segment 0 has a list of no arguments, CALL through the pointer behind it, to word 0 of segment 1.
abbrev pub gate_bytes : ℕ → ℕ → List ℕ
gate_bytes gates rights =
    8 ∷ 0 ∷ 1 ∷ 0 ∷ 2 ∷ 2 ∷ 0 ∷ 0 ∷ 3 ∷ 0 ∷ 0 ∷ 0 ∷
    24 ∷ 0 ∷ 2 ∷ 0 ∷ 0 ∷ 0 ∷ 0 ∷ 0 ∷ 0 ∷ 0 ∷ 0 ∷ 0 ∷ 0 ∷ 0 ∷ 0 ∷ 0 ∷ 0 ∷ 0 ∷ 0 ∷ 0 ∷ 0x04 ∷ 0xA0 ∷ 0x00 ∷ 0x08 ∷ 0x00 ∷ 0x10 ∷ 0x00 ∷ 0x00 ∷
    8 ∷ 0 ∷ 2 ∷ 0 ∷ gates ∷ 0 ∷ 1 ∷ 0 ∷ 0x07 ∷ 0x00 ∷ 0x00 ∷ 0x0C ∷
    3 ∷ 0 ∷ 3 ∷ 0 ∷ 0 ∷ 5 ∷ 8 ∷
    3 ∷ 0 ∷ 3 ∷ 0 ∷ 0 ∷ 0 ∷ rights ∷
    0 ∷ 0 ∷ 4 ∷ 0 ∷ []
