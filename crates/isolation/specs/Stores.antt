-- What a stretch stores: the numbers that words receive, in order.
use Rattle.std.specs.Prelude.{ℕ, zero, suc, Bool, ◌&&◌, List, [], ◌∷◌, ◌++◌, eqb, set, if◌then◌else◌}
use Rattle.std.proofs.Math.Option.{Option, none, some}
use Rattle.words.specs.Answer.{Answer, refuse, ok}
use Rattle.words.specs.declared.pointer.Pointer.{Pointer}
use Rattle.state.specs.declared.record.Machine.{Machine}
use Rattle.state.specs.Bases.{bases_of}
use Rattle.references.specs.declared.flag.Access.TheVariants as access
use Rattle.references.specs.Check.{check}
use Rattle.references.specs.Reference.{index_of}
use Rattle.memory.specs.Reader.{read_word, fetch}
use Rattle.runs.specs.Step.{Act, stop, proceed, put, cross, Completion, stopped, proceeded, crossing, Done, decide, execute}

-- a store: a word, by segment and word number, receives a number
pub record Store : Type 0 where
  pub segment : ℕ
  pub word : ℕ
  pub value : ℕ

-- through a pointer, by the answer of its check for W
abbrev pub stores_through : Pointer → ℕ → Answer ℕ → List Store
stores_through p z (refuse n) = []
stores_through p z (ok i) = record { segment = p.segment; word = p.word; value = z } ∷ []

-- by an instruction, as it is decided
abbrev pub stores_by : Machine → Answer Act → List Store
stores_by m (refuse n) = []
stores_by m (ok stop) = []
stores_by m (ok (proceed a segment word pointers recent)) = []
stores_by m (ok (put p z recent)) = stores_through p z (check m access.Write p)
stores_by m (ok (cross n)) = []

-- by what follows a completed instruction: HALT and a crossing end a stretch
abbrev pub stores_on : List Store → Completion → List Store
stores_on rest stopped = []
stores_on rest proceeded = rest
stores_on rest crossing = []

-- by what follows an instruction: a fault ends a stretch
abbrev pub stores_after : (Machine → List ℕ → List Store) → Answer Done → List Store
stores_after go (refuse n) = []
stores_after go (ok d) = stores_on (go d.machine d.words) d.completion

-- by a stretch of at most so many instructions, in order
unfoldable pub stores_of : ℕ → Machine → List ℕ → List Store
stores_of zero m words = []
stores_of (suc k) m words = stores_by m (decide m (fetch m words) (read_word m words)) ++ stores_after (stores_of k) (execute m words)

-- a memory with stores made in order, where the segments have these lengths
unfoldable pub stored_all : List ℕ → List ℕ → List Store → List ℕ
stored_all lengths words [] = words
stored_all lengths words (a ∷ more) = stored_all lengths (set words (index_of (bases_of lengths) a.segment a.word) a.value) more

-- the store is in this word
abbrev pub is_in : ℕ → ℕ → Store → Bool
is_in segment word a = eqb a.segment segment && eqb a.word word

-- the later of two numbers, if there is one
abbrev pub later : Option ℕ → Option ℕ → Option ℕ
later first none = first
later first (some z) = some z

-- the number that a word received last, if it received any
unfoldable pub received : ℕ → ℕ → List Store → Option ℕ
received segment word [] = none
received segment word (a ∷ more) = later (if is_in segment word a then some a.value else none) (received segment word more)

-- every store is as told
unfoldable pub Each : (Store → Type 0) → List Store → Type 0
Each P [] = Unit {0}
Each P (a ∷ more) = P a × Each P more
