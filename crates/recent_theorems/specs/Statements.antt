-- What is proved of the registers of recent capabilities; the proofs stand in proofs/.
use Rattle.std.specs.Prelude.{ℕ, Bool, true, false, not, List, [], ◌∷◌, map, ◌≡◌, eqb, length, get_or, replicate, if◌then◌else◌}
use Rattle.words.specs.Answer.{Answer, ok, ◌>>=◌}
use Rattle.words.specs.declared.pointer.Pointer.{Pointer}
use Rattle.words.specs.declared.instruction.Instruction.{Instruction}
use Rattle.state.specs.declared.record.Layout.{Layout}
use Rattle.state.specs.declared.record.Capability.{Capability}
use Rattle.state.specs.declared.record.Frame.{Frame}
use Rattle.state.specs.declared.record.Register.{Register}
use Rattle.state.specs.declared.record.Machine.{Machine}
use Rattle.state.specs.Record.{no_register, in_use, live_frame}
use Rattle.state.specs.Bases.{bases_of}
use Rattle.soundness.specs.Sound.{sound_test}
use Rattle.capabilities.specs.Search.{covers_of}
use Rattle.recent.specs.Found.{holds, held_of}
use Rattle.references.specs.declared.flag.Access.{Access}
use Rattle.references.specs.declared.flag.Access.TheVariants as access
use Rattle.references.specs.Flag.{flag_of, is_read}
use Rattle.references.specs.Static.{static_of}
use Rattle.references.specs.Live.{live_match, live_of, sourced}
use Rattle.references.specs.Reference.{index_of, accept}
use Rattle.references.specs.Check.{check}
use Rattle.references.specs.Made.{MadeReference, made_read, made_write, renewed_all}
use Rattle.memory.specs.Reader.{read_word}
use Rattle.instructions.specs.Instruction.{LOAD, STORE, ADD, SUB, EPP, SPP, JUMP, CALL, RET, JZ, JM}
use Rattle.instructions.specs.Made.{indirect_place, operand_made, made_at}
use Rattle.runs.specs.Step.{Done, done, execute}
use Rattle.runs.specs.Run.{Ran, ran, run_from}
use Rattle.processor.specs.Calls.{Step, run_call, stretch_call, step_call}

-- a record with other registers, and one with no registers at all: nothing is found in them, and none is entered
abbrev pub with_recent : Machine → List Register → Machine
with_recent m rs =
    record {
      layout = m.layout;
      registers = m.registers;
      pointers = m.pointers;
      frames = m.frames;
      recent = rs;
      depth = m.depth;
    }

-- no record of the code is bare: sixteen comes from the type of the record's array
abbrev pub bare : Machine → Machine
bare m = with_recent m []

-- the same of what an instruction, a run and a step answer; a fault has no record
abbrev pub bare_done : Answer Done → Answer Done
bare_done x = x >>= (λ d. ok (done (bare d.machine) d.words d.completion))

abbrev pub bare_ran : Ran → Ran
bare_ran r = ran (bare r.machine) r.words r.count r.ending

abbrev pub bare_step : Step → Step
bare_step s = record { machine = bare s.machine; words = s.words; number = s.number; halted = s.halted }

-- 0, or the number of the fault, where no registers occur: live for a tagged pointer, static for another
abbrev pub plain_verdict : Layout → ℕ → ℕ → Frame → Access → Pointer → ℕ
plain_verdict layout domain depth frame access p =
    if p.tag then live_of layout.lengths layout.rights depth frame access p.segment p.word
    else static_of layout.lengths layout.rights domain (flag_of access) p.segment p.word

-- the check by it, of a machine's layout, executing domain and live frame
abbrev pub plain_check : Machine → Access → Pointer → Answer ℕ
plain_check m access p =
    accept (plain_verdict m.layout m.registers.domain (in_use m.depth) (live_frame m.depth m.frames) access p)
    (index_of (bases_of m.layout.lengths) p.segment p.word)

-- every reference of a machine with no registers, sound or not, answers as the plain check
abbrev pub PlainCheck : Type 0
PlainCheck = (m : Machine) (access : Access) (p : Pointer) → check (bare m) access p ≡ plain_check m access p

-- so does every reference of a sound machine, through its registers
abbrev pub SoundCheck : Type 0
SoundCheck = (m : Machine) → sound_test m ≡ true → (access : Access) (p : Pointer) → check m access p ≡ plain_check m access p

-- every reference of a sound machine answers as with no registers at all
abbrev pub SameCheck : Type 0
SameCheck = (m : Machine) → sound_test m ≡ true → (access : Access) (p : Pointer) → check m access p ≡ check (bare m) access p

-- so does every instruction: the same fault, or the same completion, words and record but for the registers
abbrev pub SameStep : Type 0
SameStep = (m : Machine) (words : List ℕ) → sound_test m ≡ true → bare_done (execute m words) ≡ execute (bare m) words

-- and every run and stretch of at most k instructions, n completed before it
abbrev pub SameRun : Type 0
SameRun =
    (m : Machine) (words : List ℕ) → sound_test m ≡ true → length m.frames ≡ 8 → (stretch : Bool) (k n : ℕ)
    → bare_ran (run_from stretch k n m words) ≡ run_from stretch k n (bare m) words

-- and the calls run, stretch and step
abbrev pub SameRunCall : Type 0
SameRunCall =
    (m : Machine) (words : List ℕ) → sound_test m ≡ true → length m.frames ≡ 8 → (limit : ℕ)
    → bare_ran (run_call limit m words) ≡ run_call limit (bare m) words

abbrev pub SameStretchCall : Type 0
SameStretchCall =
    (m : Machine) (words : List ℕ) → sound_test m ≡ true → length m.frames ≡ 8 → (limit : ℕ)
    → bare_ran (stretch_call limit m words) ≡ stretch_call limit (bare m) words

abbrev pub SameStepCall : Type 0
SameStepCall = (m : Machine) (words : List ℕ) → sound_test m ≡ true → bare_step (step_call m words) ≡ step_call (bare m) words

-- the registers after references, one after the other
abbrev pub recent_past : Machine → List MadeReference → List Register
recent_past m before = renewed_all m.recent (in_use m.depth) (live_frame m.depth m.frames) before

-- within an instruction it does not matter which registers are consulted: those that it found, or those that its earlier references left
abbrev pub InOrder : Type 0
InOrder =
    (m : Machine) → sound_test m ≡ true → (before : List MadeReference) (access : Access) (p : Pointer)
    → check (with_recent m (recent_past m before)) access p ≡ check m access p

-- a capability allows the access to a word, if its source may
abbrev pub allows : Access → ℕ → ℕ → Capability → Bool
allows access segment word = covers_of segment word 1 (is_read access) (not (is_read access))

-- the registers are consulted: of any record, sound or not, the lowest register that holds a match decides a live reference, whatever the frame has
abbrev pub Consulted : Type 0
Consulted =
    (m : Machine) (access : Access) (p : Pointer) (r : Register) → p.tag ≡ true → eqb (in_use m.depth) 0 ≡ false
    → held_of (in_use m.depth) (allows access p.segment p.word) m.recent ≡ ok r
    → check m access p ≡ accept (sourced m.layout.lengths m.layout.rights access p.segment p.word (ok r.capability)) (index_of (bases_of m.layout.lengths) p.segment p.word)

-- what an instruction reads goes through that check
abbrev pub ReadsChecked : Type 0
ReadsChecked = (m : Machine) (words : List ℕ) (p : Pointer) → read_word m words p ≡ (check m access.Read p >>= (λ i. ok (get_or words i 0)))

-- what a completed instruction notes: its indirect word, whatever the opcode, then its operand, a read of LOAD, ADD and SUB, a store of STORE and SPP, of the rest none
abbrev pub InstructionNotes : Type 0
InstructionNotes =
    (pointers : List Pointer) (i : Instruction) (p : Pointer)
    → (made_at pointers i p ≡ made_read (indirect_place pointers i) ∷ operand_made i.opcode p)
    × (map (λ opcode. operand_made opcode p) (LOAD ∷ ADD ∷ SUB ∷ []) ≡ replicate 3 (made_read p ∷ []))
    × (map (λ opcode. operand_made opcode p) (STORE ∷ SPP ∷ []) ≡ replicate 2 (made_write p ∷ []))
    × (map (λ opcode. operand_made opcode p) (EPP ∷ JUMP ∷ CALL ∷ RET ∷ JZ ∷ JM ∷ []) ≡ replicate 6 [])

-- a registered match has the source of the live frame's first match
abbrev pub MatchSource : Type 0
MatchSource =
    (m : Machine) → sound_test m ≡ true → (access : Access) (segment word i : ℕ)
    → let r = get_or m.recent i no_register in holds (in_use m.depth) (allows access segment word) r ≡ true
    → (c : Capability) × (live_match (in_use m.depth) (live_frame m.depth m.frames) (allows access segment word) ≡ ok c) × (c.source ≡ r.capability.source)
