-- One instruction: decide from the record and what is read, then commit.
use Rattle.std.specs.Prelude.{ℕ, ◌+◌, Bool, true, false, List, set}
use Rattle.words.specs.Answer.{Answer, ok, ◌>>=◌}
use Rattle.words.specs.InstructionWord.{instruction_of}
use Rattle.words.specs.declared.pointer.Pointer.{Pointer}
use Rattle.words.specs.declared.instruction.Instruction.{Instruction}
use Rattle.state.specs.declared.record.Machine.{Machine}
use Rattle.state.specs.declared.record.Register.{Register}
use Rattle.references.specs.declared.flag.Access.TheVariants as access
use Rattle.state.specs.Record.{in_use, live_frame}
use Rattle.references.specs.Check.{check}
use Rattle.references.specs.Made.{renewed_all}
use Rattle.memory.specs.Reader.{Reader, read_word, fetch}
use Rattle.instructions.specs.Plan.{Plan, halt, move, store, enter, leave}
use Rattle.instructions.specs.Instruction.{plan_of}
use Rattle.instructions.specs.Made.{made_of, place_of}
use Rattle.crossings.specs.Crossing.{enter_of, leave_of}

-- what an instruction does, with the registers after its references where it goes on: the only answer that changes layout,
-- executing domain or frames is a crossing
pub data Act : Type 0 where
  stop : Act
  proceed : ℕ → ℕ → ℕ → List Pointer → List Register → Act
  put : Pointer → ℕ → List Register → Act
  cross : Machine → Act

-- what a completed instruction was
pub data Completion : Type 0 where
  stopped proceeded crossing : Completion

abbrev pub is_stop : Completion → Bool
is_stop stopped = true
is_stop proceeded = false
is_stop crossing = false

-- the record with this A, at this segment and word, with these pointers and registers
abbrev pub moved_to : Machine → ℕ → ℕ → ℕ → List Pointer → List Register → Machine
moved_to m a segment word pointers recent =
    record {
      layout = m.layout;
      registers = record { a = a; word = word; segment = segment; domain = m.registers.domain };
      pointers = pointers;
      frames = m.frames;
      recent = recent;
      depth = m.depth;
    }

pub record Done : Type 0 where
  pub machine : Machine
  pub words : List ℕ
  pub completion : Completion

abbrev pub done : Machine → List ℕ → Completion → Done
done m words e = record { machine = m; words = words; completion = e }

-- a plan with its crossing made; recent are the registers after the instruction's references, q is the place of its indirect word
abbrev pub resolve : Machine → Reader → List Register → Pointer → Plan → Answer Act
resolve m read recent q halt = ok stop
resolve m read recent q (move a segment word pointers) = ok (proceed a segment word pointers recent)
resolve m read recent q (store p v) = ok (put p v recent)
resolve m read recent q (enter p) = enter_of m read p >>= (λ n. ok (cross n))
resolve m read recent q (leave p) = leave_of m q p >>= (λ n. ok (cross n))

-- the registers after the references of a fetched instruction
unfoldable pub recent_after : Machine → Reader → Answer Instruction → List Register
recent_after m read i = renewed_all m.recent (in_use m.depth) (live_frame m.depth m.frames) (made_of read m.pointers i)

-- what the instruction at the location does; it sees the memory only through what it fetches and reads
unfoldable pub decide : Machine → Answer ℕ → Reader → Answer Act
decide m fetched read =
    let i = fetched >>= instruction_of in
    plan_of m.layout.lengths m.layout.gates m.layout.rights m.layout.stacks m.depth m.registers m.pointers fetched read >>=
    resolve m read (recent_after m read i) (place_of m.pointers i)

-- the only definition that changes words: the W check of the target is the last check of a storing instruction
unfoldable pub commit : Machine → List ℕ → Act → Answer Done
commit m words stop = ok (done m words stopped)
commit m words (proceed a segment word pointers recent) = ok (done (moved_to m a segment word pointers recent) words proceeded)
commit m words (put p v recent) =
    check m access.Write p >>= (λ i. ok (done (moved_to m m.registers.a m.registers.segment (m.registers.word + 1) m.pointers recent) (set words i v) proceeded))
commit m words (cross n) = ok (done n words crossing)

-- one instruction of a sound machine; its references go through the registers as it finds them
unfoldable pub execute : Machine → List ℕ → Answer Done
execute m words = decide m (fetch m words) (read_word m words) >>= commit m words
