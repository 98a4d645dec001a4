-- The completed crossings of a run, in order.
use Rattle.std.specs.Prelude.{ℕ, zero, suc, List, [], ◌∷◌, ltb, if◌then◌else◌}
use Rattle.words.specs.Answer.{Answer, refuse, ok}
use Rattle.state.specs.declared.record.Registers.{Registers}
use Rattle.state.specs.declared.record.Machine.{Machine}
use Rattle.runs.specs.Step.{Completion, stopped, proceeded, crossing, Done, execute}

-- a call through a gate, or a return from one
pub data Kind : Type 0 where
  call return : Kind

-- its kind, the domain that is left, the domain, segment and word that are entered
pub record Crossing : Type 0 where
  pub kind : Kind
  pub left : ℕ
  pub entered : ℕ
  pub segment : ℕ
  pub word : ℕ

-- a call leaves more frames in use than before, a return fewer
abbrev pub kind_of : ℕ → ℕ → Kind
kind_of before after = if ltb before after then call else return

-- a crossing of a kind from a domain to where registers are
abbrev pub crossing_by : Kind → ℕ → Registers → Crossing
crossing_by kind left r = record { kind = kind; left = left; entered = r.domain; segment = r.segment; word = r.word }

-- the crossing from one record to the next
abbrev pub crossing_to : Machine → Machine → Crossing
crossing_to m n = crossing_by (kind_of m.depth n.depth) m.registers.domain n.registers

-- after a completed instruction, from m to n: a crossing is one record, any other none; HALT ends the run
abbrev pub then_crossings : (Machine → List ℕ → List Crossing) → Machine → Machine → List ℕ → Completion → List Crossing
then_crossings go m n words stopped = []
then_crossings go m n words proceeded = go n words
then_crossings go m n words crossing = crossing_to m n ∷ go n words

-- after an instruction: one that faults has no record, and ends the run
abbrev pub crossings_after : (Machine → List ℕ → List Crossing) → Machine → Answer Done → List Crossing
crossings_after go m (refuse f) = []
crossings_after go m (ok d) = then_crossings go m d.machine d.words d.completion

-- the crossings of a run of at most k instructions
unfoldable pub crossings_of : ℕ → Machine → List ℕ → List Crossing
crossings_of zero m words = []
crossings_of (suc k) m words = crossings_after (crossings_of k) m (execute m words)
