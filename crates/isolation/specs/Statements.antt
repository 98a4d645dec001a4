-- The isolation theorem and what follows from it; the proofs stand in proofs/Main.antt and proofs/Corollaries.antt.
use Rattle.std.specs.Prelude.{ℕ, ◌≤◌, true, false, List, ◌≡◌, get_or, length, set, take}
use Rattle.state.specs.declared.record.Machine.{Machine}
use Rattle.state.specs.Record.{no_capability, live_frame}
use Rattle.state.specs.Bases.{words_in}
use Rattle.recent.specs.SoundRegisters.{recent_test}
use Rattle.soundness.specs.Sound.{sound_test}
use Rattle.references.specs.declared.flag.Flag.TheVariants as flag
use Rattle.references.specs.Flag.{has}
use Rattle.references.specs.Static.{rights_of}
use Rattle.runs.specs.Run.{crossed, judged}
use Rattle.processor.specs.Calls.{run_of, stretch_of, stretch_call}
use Rattle.executions.specs.Called.{steps_called}
use Rattle.isolation.specs.Visible.{may_see, could_write, existing, place}
use Rattle.isolation.specs.Stores.{stores_of}
use Rattle.isolation.specs.Isolation.{Agree, Unchanged, Isolated}

-- THE ISOLATION THEOREM. Two machines with the same sound record, whose memories agree on every word that the executing domain
-- may see, run with the same limit up to and with the first completed crossing: they end equally, and made the same stores.
abbrev pub Isolation : Type 0
Isolation =
    (m : Machine) → sound_test m ≡ true → (limit : ℕ) (w v : List ℕ) → 8192 ≤ length w → 8192 ≤ length v
    → Agree m w v → Isolated m w v (stretch_of limit m w) (stretch_of limit m v) (stores_of limit m w) (stores_of limit m v)

-- the same of the call of a stretch, for any record over any two memories with which it is not refused
abbrev pub CallIsolation : Type 0
CallIsolation =
    (m : Machine) (limit : ℕ) (w v : List ℕ) → judged m w ≡ 0 → judged m v ≡ 0
    → Agree m w v → Isolated m w v (stretch_call limit m w) (stretch_call limit m v) (stores_of limit m w) (stores_of limit m v)

-- and of calls of step, each on what the one before left, up to the first that changes the number of frames in use;
-- the record's list of frames is as long as the array
abbrev pub StepsIsolation : Type 0
StepsIsolation =
    (m : Machine) (limit : ℕ) (w v : List ℕ) → length m.frames ≡ 8 → judged m w ≡ 0 → judged m v ≡ 0
    → Agree m w v → Isolated m w v (steps_called limit 0 m w) (steps_called limit 0 m v) (stores_of limit m w) (stores_of limit m v)

-- the registers are sound for the frames in use, which are at most eight
abbrev pub RegistersSound : Machine → Type 0
RegistersSound m = (m.depth ≤ 8) × (recent_test m.depth m.frames m.recent ≡ true)

-- another number in a word that the domain may not see is never noticed; this and the rest ask of the record only few words and sound registers
abbrev pub Secrecy : Type 0
Secrecy =
    (m : Machine) (limit : ℕ) (w : List ℕ) → words_in m.layout.lengths ≤ 8192 → RegistersSound m → 8192 ≤ length w
    → (s k x : ℕ) → existing m s k ≡ true → may_see m s k ≡ false
    → Isolated m w (set w (place m s k) x) (stretch_of limit m w) (stretch_of limit m (set w (place m s k) x))
    (stores_of limit m w) (stores_of limit m (set w (place m s k) x))

-- the same holds for runs in which no crossing completes
abbrev pub RunIsolation : Type 0
RunIsolation =
    (m : Machine) (limit : ℕ) (w : List ℕ) → words_in m.layout.lengths ≤ 8192 → RegistersSound m → 8192 ≤ length w
    → (v : List ℕ) → 8192 ≤ length v → Agree m w v → ((stretch_of limit m w).ending ≡ crossed → ⊥)
    → Isolated m w v (run_of limit m w) (run_of limit m v) (stores_of limit m w) (stores_of limit m v)

-- a word that the domain could not write is unchanged
abbrev pub Integrity : Type 0
Integrity =
    (m : Machine) (limit : ℕ) (w : List ℕ) → words_in m.layout.lengths ≤ 8192 → RegistersSound m → 8192 ≤ length w
    → (s k : ℕ) → existing m s k ≡ true → could_write m s k ≡ false → Unchanged m w (stretch_of limit m w) s k

-- no segment on which the executing domain has W
abbrev pub NoWrite : Machine → Type 0
NoWrite m = (s : ℕ) → has (rights_of m.layout.rights m.registers.domain s) flag.Write ≡ false

-- no capability of the live frame with W
abbrev pub NoLiveWrite : Machine → Type 0
NoLiveWrite m =
    let f = live_frame m.depth m.frames in
    (i : ℕ) → (get_or (take f.count f.capabilities) i no_capability).write ≡ false

-- a domain with neither changes no word
abbrev pub ReadOnly : Type 0
ReadOnly =
    (m : Machine) (limit : ℕ) (w : List ℕ) → words_in m.layout.lengths ≤ 8192 → RegistersSound m → 8192 ≤ length w
    → NoWrite m → NoLiveWrite m → (s k : ℕ) → existing m s k ≡ true → Unchanged m w (stretch_of limit m w) s k
