-- Questions that the definitions answer, and their answers in plain numbers.
use Rattle.std.specs.Prelude.{ℕ, Bool, List, [], ◌∷◌, ℤ}
use Rattle.words.specs.Answer.{Answer, refuse, ok, ◌>>=◌, number_of}
use Rattle.words.specs.Bit.{bit}
use Rattle.words.specs.PointerWord.{pointer_of}
use Rattle.words.specs.Offset.{displaced_of, literal_of}
use Rattle.words.specs.InstructionWord.{instruction_of}
use Rattle.words.specs.declared.pointer.Pointer.{Pointer}
use Rattle.state.specs.declared.record.Machine.{Machine}
use Rattle.state.specs.Record.{in_use, live_frame}
use Rattle.segments.specs.Segment.{segment_check, part_start, part_size}
use Rattle.references.specs.declared.flag.Flag.{Flag}
use Rattle.references.specs.declared.flag.Access.TheVariants as access
use Rattle.references.specs.Live.{passed_of}
use Rattle.record_checks.specs.Judged.{judged_static, judged_check}
use Rattle.runs.specs.Run.{Ran, Ending, halted, spent, crossed, faulted, refused}
use Rattle.processor.specs.Calls.{run_call}
use Rattle.isolation.specs.Visible.{may_see, could_write}
use Rattle.readings.specs.Scene.{Scene, machine_of, scene_memory}
use Rattle.readings.specs.Change.{start_of}

-- what a row may ask: words taken apart, the checks of a reference, seeing and writing, the host's segments, and runs
pub data Question : Type 0 where
  pointer : ℕ → Question
  instruction : ℕ → Question
  displace : ℕ → ℤ → Question
  reading : Scene → Pointer → Question
  writing : Scene → Pointer → Question
  passing : Scene → Pointer → ℕ → Bool → Bool → Question
  permitting : Machine → ℕ → Flag → ℕ → ℕ → Question
  reaching : Machine → ℕ → ℕ → Question
  part : Machine → ℕ → ℕ → Question
  running : ℕ → Machine → List ℕ → Question

-- one instruction of a scene's machine with this A and this pointer in register 0, over a memory that begins with these words
abbrev pub executing : Scene → ℕ → Pointer → List ℕ → Question
executing s a p words = running 1 (start_of s a p) (scene_memory words)

-- passing an argument on from the live frame of a machine
abbrev passed : Machine → Pointer → ℕ → Bool → Bool → Answer ℕ
passed m p length read write = passed_of (in_use m.depth) (live_frame m.depth m.frames) p.segment p.word length read write

-- A after a run, or the number of its refusal or fault
abbrev ends_with : ℕ → Ending → Answer (List ℕ)
ends_with a halted = ok (a ∷ [])
ends_with a spent = ok (a ∷ [])
ends_with a crossed = ok (a ∷ [])
ends_with a (faulted n) = refuse n
ends_with a (refused n) = refuse n

abbrev last_a : Ran → Answer (List ℕ)
last_a r = ends_with r.machine.registers.a r.ending

-- what is answered: a refusal's number, or values in the order that the comment of the case gives
abbrev pub answer : Question → Answer (List ℕ)
-- tag, segment, word
answer (pointer w) = pointer_of w >>= (λ p. ok (bit p.tag ∷ p.segment ∷ p.word ∷ []))
-- opcode, register, base, indirect, offset modulo 2^32
answer (instruction w) =
    instruction_of w >>= (λ i. ok (i.opcode ∷ i.register ∷ i.base ∷ bit i.indirect ∷ literal_of i.offset ∷ []))
-- the word number
answer (displace word offset) = displaced_of word offset >>= (λ n. ok (n ∷ []))
-- the index of the word in the memory
answer (reading s p) = judged_check (machine_of s) access.Read p >>= (λ i. ok (i ∷ []))
answer (writing s p) = judged_check (machine_of s) access.Write p >>= (λ i. ok (i ∷ []))
-- the source
answer (passing s p length read write) = passed (machine_of s) p length read write >>= (λ d. ok (d ∷ []))
-- the index of the word, for a domain and a flag
answer (permitting m domain flag segment word) = judged_static m domain flag segment word >>= (λ i. ok (i ∷ []))
-- may see, could write
answer (reaching m segment word) = ok (bit (may_see m segment word) ∷ bit (could_write m segment word) ∷ [])
-- of a segment in a memory of so many words: the number that the host gets, the start and the size of its part
answer (part m size number) = ok (number_of (segment_check m size number) ∷ part_start m size number ∷ part_size m size number ∷ [])
-- A after at most so many instructions
answer (running limit m words) = last_a (run_call limit m words)

-- a question and the answer that is due
pub record Row : Type 0 where
  pub asked : Question
  pub due : Answer (List ℕ)

abbrev pub ◌gives◌ : Question → Answer (List ℕ) → Row
q gives a = record { asked = q; due = a }

infix 4 ◌gives◌
