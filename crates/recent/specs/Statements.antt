-- What is proved of sixteen registers with different numbers; the proofs stand in proofs/Order.antt.
use Rattle.std.specs.Prelude.{ℕ, ◌-◌, ◌<◌, ◌≤◌, Bool, true, false, not, ◌&&◌, ◌||◌, List, ◌≡◌, eqb, ltb, length, get_or}
use Rattle.state.specs.declared.record.Capability.{Capability}
use Rattle.state.specs.declared.record.Register.{Register}
use Rattle.state.specs.Record.{no_capability, no_register}
use Rattle.recent.specs.Entering.{same_flag}
use Rattle.recent.specs.Registers.{register, numbered, touched, with_entry, cleared}
use Rattle.recent.specs.SoundRegisters.{numbers_test}

-- sixteen registers with different numbers from 0 to 15
abbrev pub Sixteen : List Register → Type 0
Sixteen rs = (length rs ≡ 16) × (numbers_test rs ≡ true)

-- register i
abbrev pub register_in : List Register → ℕ → Register
register_in rs i = get_or rs i no_register

-- each number from 0 to 15 is that of a register
abbrev pub EachNumber : Type 0
EachNumber = (rs : List Register) → Sixteen rs → (n : ℕ) → n ≤ 15 → (i : ℕ) × (i < 16) × ((register_in rs i).recency ≡ n)

-- what a match of register k makes of the registers
pub record Matched (k : ℕ) (rs after : List Register) : Type 0 where
  -- they are sixteen with different numbers again
  pub sixteen : Sixteen after
  -- it gets 15
  pub highest : (register_in after k).recency ≡ 15
  -- every number above its old one falls by one
  pub falls : (i : ℕ) → i < 16 → (register_in rs k).recency < (register_in rs i).recency → (register_in after i).recency ≡ (register_in rs i).recency - 1
  -- every number below its old one stays
  pub stays : (i : ℕ) → i < 16 → (register_in rs i).recency < (register_in rs k).recency → (register_in after i).recency ≡ (register_in rs i).recency
  -- and nothing changes but the numbers
  pub kept : (i : ℕ) → i < 16 → register_in after i ≡ numbered (register_in rs i) (register_in after i).recency

-- a match does that, of whatever register
abbrev pub MatchOrder : Type 0
MatchOrder = (rs : List Register) → Sixteen rs → (k : ℕ) → k < 16 → Matched k rs (touched (register_in rs k).recency rs)

-- what an entry makes of them
pub record Entered (c : Capability) (frame : ℕ) (rs after : List Register) : Type 0 where
  -- they are sixteen with different numbers again
  pub sixteen : Sixteen after
  -- there is a register at 0; the entry replaces it and gets 15
  pub replaced : (i : ℕ) × (i < 16) × ((register_in rs i).recency ≡ 0) × (register_in after i ≡ register c frame 15)
  -- all others fall by one
  pub falls : (i : ℕ) → i < 16 → 0 < (register_in rs i).recency → register_in after i ≡ numbered (register_in rs i) ((register_in rs i).recency - 1)

-- an entry does that, of whatever capability
abbrev pub EntryOrder : Type 0
EntryOrder = (rs : List Register) → Sixteen rs → (c : Capability) (frame : ℕ) → Entered c frame rs (with_entry c frame rs)

-- a register of the frame
abbrev pub is_of : ℕ → Register → Bool
is_of frame r = eqb r.frame frame

-- the order after a return: r is the frame's and s is not; or both are, or neither is, and r had the lower number
abbrev pub comes_before : ℕ → Register → Register → Bool
comes_before frame r s = (is_of frame r && not (is_of frame s)) || (same_flag (is_of frame r) (is_of frame s) && ltb r.recency s.recency)

-- what a return from the frame makes of them
pub record Returned (frame : ℕ) (rs after : List Register) : Type 0 where
  -- they are sixteen with different numbers again
  pub sixteen : Sixteen after
  -- one number is lower than another exactly in that order: the frame's registers are the next replaced, in their old order, and the rest keep theirs
  pub order : (i j : ℕ) → i < 16 → j < 16 → ltb (register_in after i).recency (register_in after j).recency ≡ comes_before frame (register_in rs i) (register_in rs j)
  -- the frame's registers are zero but for the number
  pub emptied : (i : ℕ) → i < 16 → is_of frame (register_in rs i) ≡ true → register_in after i ≡ register no_capability 0 (register_in after i).recency
  -- the others change in nothing but the number
  pub kept : (i : ℕ) → i < 16 → is_of frame (register_in rs i) ≡ false → register_in after i ≡ numbered (register_in rs i) (register_in after i).recency

-- a return does that, from whatever frame
abbrev pub ReturnOrder : Type 0
ReturnOrder = (rs : List Register) → Sixteen rs → (frame : ℕ) → Returned frame rs (cleared frame rs)
