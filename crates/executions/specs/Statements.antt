-- What is proved of instructions, steps, runs and stretches; the proofs stand in proofs/.
use Rattle.std.specs.Prelude.{ℕ, ◌+◌, ◌≤◌, Bool, true, false, List, ◌⊎◌, ◌≡◌, get_or, length}
use Rattle.words.specs.Answer.{Answer, refuse, ok, ◌>>=◌}
use Rattle.words.specs.InstructionWord.{instruction_of}
use Rattle.words.specs.declared.pointer.Pointer.{Pointer}
use Rattle.state.specs.declared.record.Machine.{Machine}
use Rattle.state.specs.Bases.{base_of, words_in}
use Rattle.soundness.specs.Sound.{sound_test}
use Rattle.memory.specs.Reader.{read_word, fetch}
use Rattle.instructions.specs.Plan.{Plan, enter, leave}
use Rattle.instructions.specs.Instruction.{plan_of}
use Rattle.instructions.specs.Made.{place_of}
use Rattle.crossings.specs.Crossing.{enter_of, leave_of}
use Rattle.runs.specs.Step.{Completion, stopped, proceeded, crossing, Done, done, execute}
use Rattle.runs.specs.Run.{ran, spent, faulted, refused, run_from, judged}
use Rattle.processor.specs.Calls.{Step, step_call, run_call, stretch_call}
use Rattle.processor.specs.Steps.{after_stretch}
use Rattle.executions.specs.Called.{steps_called}

-- the numbers of faults
abbrev pub Fault : ℕ → Type 0
Fault n = (21 ≤ n) × (n ≤ 32)

-- a sound record; its list of frames is as long as the array
abbrev pub SoundRecord : Machine → Type 0
SoundRecord m = (sound_test m ≡ true) × (length m.frames ≡ 8)

-- a completed instruction leaves a sound record sound
abbrev pub StepSound : Type 0
StepSound = (m : Machine) (words : List ℕ) → SoundRecord m → (d : Done) → execute m words ≡ ok d → SoundRecord d.machine

-- so does a run or a stretch of at most k instructions, n completed before it
abbrev pub RunSound : Type 0
RunSound = (m : Machine) (words : List ℕ) → SoundRecord m → (stretch : Bool) (k n : ℕ) → SoundRecord (run_from stretch k n m words).machine

-- what the instruction at the location asks for
abbrev pub planned_by : Machine → List ℕ → Answer Plan
planned_by m words =
    plan_of m.layout.lengths m.layout.gates m.layout.rights m.layout.stacks m.depth m.registers m.pointers (fetch m words) (read_word m words)

-- the place of its indirect word
abbrev pub indirect_by : Machine → List ℕ → Pointer
indirect_by m words = place_of m.pointers (fetch m words >>= instruction_of)

-- a completed crossing is of an instruction that asks for a call through a gate, or for a return from one, and was granted it
pub record CalledTo (m : Machine) (words : List ℕ) (n : Machine) : Type 0 where
  pub gate : Pointer
  pub asked : planned_by m words ≡ ok (enter gate)
  pub made : enter_of m (read_word m words) gate ≡ ok n

pub record ReturnedTo (m : Machine) (words : List ℕ) (n : Machine) : Type 0 where
  pub back : Pointer
  pub asked : planned_by m words ≡ ok (leave back)
  pub made : leave_of m (indirect_by m words) back ≡ ok n

-- what a completed instruction made of the record m: HALT nothing; all but a crossing keep the executing domain and the number of frames in use
abbrev pub Made : Machine → List ℕ → Completion → Machine → Type 0
Made m words stopped n = n ≡ m
Made m words proceeded n = (n.registers.domain ≡ m.registers.domain) × (n.depth ≡ m.depth)
Made m words crossing n = CalledTo m words n ⊎ ReturnedTo m words n

abbrev pub StepMade : Type 0
StepMade = (m : Machine) (words : List ℕ) (d : Done) → execute m words ≡ ok d → Made m words d.completion d.machine

-- a call through a gate in a sound machine enters another domain
abbrev pub CallLeaves : Type 0
CallLeaves = (m n : Machine) (words : List ℕ) → SoundRecord m → CalledTo m words n → n.registers.domain ≡ m.registers.domain → ⊥

-- it leaves the words, and the next fetch gets the gate's word: no fault of that fetch follows a completed call
abbrev pub CallFetches : Type 0
CallFetches =
    (m n : Machine) (words : List ℕ) → SoundRecord m → (c : CalledTo m words n)
    → (execute m words ≡ ok (done n words crossing)) × (fetch n words ≡ ok (get_or words (base_of m.layout.lengths c.gate.segment + c.gate.word) 0))

-- a run is its first stretch, and a run from where that crossed
abbrev pub RunStretches : Type 0
RunStretches = (k n : ℕ) (m : Machine) (words : List ℕ) → run_from false k n m words ≡ after_stretch (n + k) (run_from true k n m words)

-- calls of step on a sound record, with words enough, make its stretch
abbrev pub StepsStretch : Type 0
StepsStretch =
    (k n : ℕ) (m : Machine) (words : List ℕ) → SoundRecord m → 8192 ≤ length words
    → steps_called k n m words ≡ run_from true k n m words

-- the count grows by at most the limit
abbrev pub CountMost : Type 0
CountMost =
    (stretch : Bool) (k n : ℕ) (m : Machine) (words : List ℕ)
    → (n ≤ (run_from stretch k n m words).count) × ((run_from stretch k n m words).count ≤ n + k)

-- spent means that the count has grown by the limit
abbrev pub CountSpent : Type 0
CountSpent =
    (stretch : Bool) (k n : ℕ) (m : Machine) (words : List ℕ) → (run_from stretch k n m words).ending ≡ spent
    → (run_from stretch k n m words).count ≡ n + k

-- a run keeps the layout, the number of words, and every word past the last segment
abbrev pub RunLayout : Type 0
RunLayout = (stretch : Bool) (k n : ℕ) (m : Machine) (words : List ℕ) → (run_from stretch k n m words).machine.layout ≡ m.layout

abbrev pub RunLength : Type 0
RunLength = (stretch : Bool) (k n : ℕ) (m : Machine) (words : List ℕ) → length (run_from stretch k n m words).words ≡ length words

abbrev pub RunPast : Type 0
RunPast =
    (stretch : Bool) (k n : ℕ) (m : Machine) (words : List ℕ) (i : ℕ) → words_in m.layout.lengths ≤ i
    → get_or (run_from stretch k n m words).words i 0 ≡ get_or words i 0

-- a step with this number that changed nothing
abbrev pub idle : Machine → List ℕ → ℕ → Step
idle m words n = record { machine = m; words = words; number = n; halted = false }

-- a step whose number is not 0, refused or faulted, changed nothing
abbrev pub FaultLeaves : Type 0
FaultLeaves = (m : Machine) (words : List ℕ) → ((step_call m words).number ≡ 0 → ⊥) → step_call m words ≡ idle m words (step_call m words).number

-- a step whose number is 0 did not fault
abbrev pub ZeroCompletes : Type 0
ZeroCompletes = (m : Machine) (words : List ℕ) → (step_call m words).number ≡ 0 → (n : ℕ) → execute m words ≡ refuse n → ⊥

-- a call on a record that is not sound, or with a memory that is too short, is refused, changed nothing and counted nothing
abbrev pub RefusedStep : Type 0
RefusedStep = (m : Machine) (words : List ℕ) → (judged m words ≡ 0 → ⊥) → step_call m words ≡ idle m words (judged m words)

abbrev pub RefusedRun : Type 0
RefusedRun = (m : Machine) (words : List ℕ) (limit : ℕ) → (judged m words ≡ 0 → ⊥) → run_call limit m words ≡ ran m words 0 (refused (judged m words))

abbrev pub RefusedStretch : Type 0
RefusedStretch =
    (m : Machine) (words : List ℕ) (limit : ℕ) → (judged m words ≡ 0 → ⊥) → stretch_call limit m words ≡ ran m words 0 (refused (judged m words))

-- a run and a stretch that end as refused changed nothing and counted nothing
abbrev pub RefusedLeaves : Type 0
RefusedLeaves =
    (limit : ℕ) (m : Machine) (words : List ℕ) (n : ℕ) → (run_call limit m words).ending ≡ refused n → run_call limit m words ≡ ran m words 0 (refused n)

abbrev pub RefusedStretchLeaves : Type 0
RefusedStretchLeaves =
    (limit : ℕ) (m : Machine) (words : List ℕ) (n : ℕ) → (stretch_call limit m words).ending ≡ refused n
    → stretch_call limit m words ≡ ran m words 0 (refused n)

-- a run that faulted left record and words as they were before the instruction that gives the fault
abbrev pub RunFaulted : Type 0
RunFaulted =
    (stretch : Bool) (k n : ℕ) (m : Machine) (words : List ℕ) (f : ℕ) → (run_from stretch k n m words).ending ≡ faulted f
    → execute (run_from stretch k n m words).machine (run_from stretch k n m words).words ≡ refuse f

-- a fault of an instruction, and of a run, is a number from 21 to 32
abbrev pub FaultNumber : Type 0
FaultNumber = (m : Machine) (words : List ℕ) (n : ℕ) → execute m words ≡ refuse n → Fault n

abbrev pub RunNumber : Type 0
RunNumber = (stretch : Bool) (k n : ℕ) (m : Machine) (words : List ℕ) (f : ℕ) → (run_from stretch k n m words).ending ≡ faulted f → Fault f
