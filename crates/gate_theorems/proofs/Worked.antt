-- The example, computed: with a dead gate its call is completed and the fetch after it gives 22, so the image is refused; with E the call
-- reaches the gate's word.
use Prim.Native.Nat.{ℕ}
use mathlib.Core.Bool.{true, false}
use mathlib.Core.List.{List, [], ◌∷◌}
use mathlib.Core.Path.{◌≡◌, refl}
use lib.ListN.{replicate}
use Rattle.words.specs.Answer.{Answer, refuse, ok, ◌>>=◌}
use Rattle.words.specs.Field.{field, common}
use Rattle.words.specs.Offset.{signed_of, displaced_of}
use Rattle.words.specs.PointerWord.{pointer_of}
use Rattle.words.specs.InstructionWord.{instruction_of}
use Rattle.words.specs.declared.pointer.Pointer.{Pointer}
use Rattle.state.specs.declared.record.Frame.{Frame}
use Rattle.state.specs.declared.record.Machine.{Machine}
use Rattle.state.specs.Bases.{base_of, bases_of}
use Rattle.state.specs.Record.{no_pointer, no_capability}
use Rattle.fresh.specs.Fresh.{fresh_of}
use Rattle.layout_soundness.specs.SoundLayout.{all_from, gate_test, gates_test}
use Rattle.references.specs.Flag.{has}
use Rattle.references.specs.Static.{exists, rights_of, static_of}
use Rattle.references.specs.Reference.{verdict_of, locate_of, reference_of}
use Rattle.memory.specs.Reader.{read_of, fetch_of, read_word, fetch}
use Rattle.addressing.specs.Effective.{displaced_by, through_of, effective_of}
use Rattle.transfers.specs.Transfer.{call_way}
use Rattle.instructions.specs.Instruction.{call_of, is_load, is_store, effect_of, execute_of, plan_of}
use Rattle.arguments.specs.ArgumentList.{list_word, source_of, list_pointer, arguments_from, frame_after, frame_of}
use Rattle.crossings.specs.Crossing.{entered, enter_of}
use Rattle.image_format.specs.Bytes.{pair_of, word_of, words_of, joined}
use Rattle.image_format.specs.Chunk.{header_of, chunk_of}
use Rattle.image_format.specs.Head.{head_fields, head_body, head_of}
use Rattle.image_format.specs.Segment.{segment_length, segment_fields, segment_body, segment_of, segments_of}
use Rattle.image_format.specs.Domain.{all_rights, domain_body, domain_of, domains_of}
use Rattle.image_format.specs.Image.{Image, padded, layout_of, chunks_of, image_of}
use Rattle.runs.specs.Step.{Completion, crossing, decide, commit, execute}
use Rattle.runs.specs.Run.{run_from}
use Rattle.executions.specs.Statements.{CalledTo}
use Rattle.gate_theorems.proofs.Fetches.{fresh-call-fetches}
use Rattle.gate_theorems.specs.Example.{gate_bytes}
use Rattle.gate_theorems.specs.Statements.{DeadOrder}

-- what the bytes hold
abbrev gate_image : ℕ → ℕ → Image
gate_image gates rights =
    record {
      start = record { word = 3; segment = 0; domain = 0 };
      segments = record { gates = 0; domain = 0; words = 0 ∷ 0 ∷ 0 ∷ 0x0800A004 ∷ 0x1000 ∷ [] } ∷ record { gates = gates; domain = 1; words = 0x0C000007 ∷ [] } ∷ [];
      domains = record { stack = 0; rights = 5 ∷ 8 ∷ [] } ∷ record { stack = 0; rights = 0 ∷ rights ∷ [] } ∷ [];
    }

abbrev program : List ℕ
program = 0 ∷ 0 ∷ 0 ∷ 0x0800A004 ∷ 0x1000 ∷ 0x0C000007 ∷ []

abbrev start : ℕ → ℕ → Machine
start gates rights = fresh_of (layout_of (gate_image gates rights))

pub dead-order : DeadOrder
unfolding image_of chunks_of head_of head_body head_fields chunk_of header_of pair_of word_of words_of pointer_of field segments_of segment_of segment_length segment_body segment_fields
    domains_of domain_of domain_body all_rights padded joined layout_of gates_test gate_test all_from has rights_of
dead-order = record { alone = refl; bytes-left = refl; cut-short = refl; wrong-kind = refl; wrong-length = refl; bad-field = refl }

-- the image is accepted with E alone, and without gates with all rights but E
pub accepted : (image_of (gate_bytes 1 4) ≡ ok (gate_image 1 4)) × (image_of (gate_bytes 0 11) ≡ ok (gate_image 0 11))
unfolding image_of chunks_of head_of head_body head_fields chunk_of header_of pair_of word_of words_of pointer_of field segments_of segment_of segment_length segment_body segment_fields
    domains_of domain_of domain_body all_rights padded joined layout_of gates_test gate_test all_from has rights_of
accepted = (refl, refl)

-- how the first instruction is completed, and what is fetched after it
abbrev completed : ℕ → ℕ → Answer Completion
completed gates rights = execute (start gates rights) program >>= (λ d. ok d.completion)

abbrev fetched : ℕ → ℕ → Answer ℕ
fetched gates rights = execute (start gates rights) program >>= (λ d. fetch d.machine d.words)

pub record Computed : Type 0 where
  -- the call is completed, with a dead gate too, and the fetch after it finds out
  pub dead : (completed 1 11 ≡ ok crossing) × (fetched 1 11 ≡ refuse 22)
  pub alive : (completed 1 4 ≡ ok crossing) × (fetched 1 4 ≡ ok 0x0C000007)
  -- without gates the call is refused
  pub gateless : completed 0 11 ≡ refuse 29

pub computed : Computed
unfolding field common signed_of displaced_of pointer_of instruction_of base_of bases_of fresh_of padded joined layout_of
    has exists rights_of static_of verdict_of locate_of reference_of read_of fetch_of read_word fetch displaced_by through_of effective_of
    call_way call_of is_load is_store effect_of execute_of plan_of list_word source_of list_pointer arguments_from frame_after frame_of
    entered enter_of decide commit execute
computed = record { dead = (refl, refl); alive = (refl, refl); gateless = refl }

-- the gate, and the frame of the call: no arguments, and the list's capability
abbrev gate : Pointer
gate = record { word = 0; segment = 1; tag = false }

abbrev frame : Frame
frame =
    record {
      capabilities = record { word = 0; length = 3; segment = 0; source = 0; read = true; write = false } ∷ replicate 8 no_capability;
      s = no_pointer;
      back = no_pointer;
      count = 1;
      domain = 0;
    }

calls : CalledTo (start 1 4) program (entered (start 1 4) gate frame)
unfolding field common signed_of displaced_of pointer_of instruction_of base_of bases_of fresh_of padded joined layout_of
    has exists rights_of static_of verdict_of locate_of reference_of read_of fetch_of read_word fetch displaced_by through_of effective_of
    call_way call_of is_load is_store effect_of execute_of plan_of list_word source_of list_pointer arguments_from frame_after frame_of entered enter_of
calls = record { gate = gate; asked = refl; made = refl }

-- the theorem of the fetch, of this call
pub call-reaches : fetch (entered (start 1 4) gate frame) program ≡ ok 0x0C000007
unfolding calls run_from base_of layout_of padded
call-reaches = (fresh-call-fetches (gate_bytes 1 4) (gate_image 1 4) accepted.0 program 0 (entered (start 1 4) gate frame) calls).1
