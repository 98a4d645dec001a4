-- Definitions that only contracts of private functions cite.
use Rattle.std.specs.Prelude.{ℕ, ◌+◌, ◌*◌, ◌-◌, ◌%◌, ◌/◌, ◌<◌, List, [], ◌∷◌, ◌≡◌, eqb, get_or, set, if◌then◌else◌}
use Rattle.words.specs.Bit.{bit}
use Rattle.state.specs.declared.record.Register.{Register}
use Rattle.state.specs.Record.{no_capability}
use Rattle.recent.specs.Registers.{register, order_of, before}
use Rattle.lent_registers.specs.Columns.{register_at, registers_of}

-- the columns with values in row i, from column c on
abbrev pub put_from : List ℕ → ℕ → ℕ → List ℕ → List ℕ
put_from xs i c [] = xs
put_from xs i c (v ∷ vs) = put_from (set xs (16 * c + i) v) i (c + 1) vs

-- a register's row after its number
abbrev pub row_of : Register → List ℕ
row_of r =
    let c = r.capability in
    r.frame ∷ c.segment ∷ c.source ∷ bit c.read ∷ bit c.write ∷ c.word % 256 ∷ c.word / 256 ∷ c.length % 256 ∷ c.length / 256 ∷ []

-- the columns with a register in place i
unfoldable pub put_at : List ℕ → ℕ → Register → List ℕ
put_at xs i r = put_from (set xs i r.recency) i 1 (row_of r)

-- the columns with an entry in place i if the number there is 0, else with one less there
abbrev pub entered_at : List ℕ → ℕ → Register → List ℕ
entered_at xs i entry = if eqb (get_or xs i 0) 0 then put_at xs i entry else set xs i (get_or xs i 0 - 1)

-- the numbers of the sixteen registers after a return from a frame
abbrev pub Ranks : ℕ → List ℕ → List ℕ → Type 0
Ranks frame xs ns = (k : ℕ) → k < 16 → get_or ns k 0 ≡ before frame (order_of frame (register_at xs k)) (registers_of xs)

-- the columns with register i numbered n, and emptied if it is of the frame
abbrev pub cleared_at : List ℕ → ℕ → ℕ → ℕ → List ℕ
cleared_at xs i frame n = if eqb (get_or xs (16 + i) 0) frame then put_at xs i (register no_capability 0 n) else set xs i n
