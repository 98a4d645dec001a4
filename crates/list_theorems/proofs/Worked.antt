-- A worked relay: A makes a list for C and hands it to B, which calls C with it; C reads it and returns through B. The image is
-- examples/handed_on_list.img.
use Prim.Native.Nat.{ℕ, zero, suc, ◌+◌, ◌-◌, ◌<◌}
use native.Mathlib.Omega.{arith}
use mathlib.Core.Bool.{true, false}
use mathlib.Core.List.{List, [], ◌∷◌, ◌++◌}
use mathlib.Core.Path.{◌≡◌, refl, ap, ◌∙◌}
use borrow.Author.Tests.{le-leb, lt-leb}
use lib.ListN.{length, get_or, set, replicate}
use Rattle.words.specs.Answer.{refuse}
use Rattle.words.specs.Field.{field, common}
use Rattle.words.specs.Arithmetic.{sum_of}
use Rattle.words.specs.Offset.{signed_of, displaced_of}
use Rattle.words.specs.PointerWord.{pointer_word, pointer_of}
use Rattle.words.specs.InstructionWord.{instruction_of}
use Rattle.words.specs.ModeWord.{mode_of}
use Rattle.words.specs.declared.pointer.Pointer.{Pointer}
use Rattle.state.specs.declared.record.Layout.{Layout}
use Rattle.state.specs.declared.record.Capability.{Capability}
use Rattle.state.specs.declared.record.Frame.{Frame}
use Rattle.state.specs.declared.record.Register.{Register}
use Rattle.state.specs.declared.record.Machine.{Machine}
use Rattle.state.specs.Record.{no_pointer, no_capability, free_frame}
use Rattle.state.specs.Bases.{base_of, bases_of}
use Rattle.recent.specs.Entering.{yields, all_yield, same, may_enter}
use Rattle.recent.specs.Registers.{register, empty_from, risen, touched, with_entry as filled, order_of, before, cleared, listed}
use Rattle.recent.specs.Found.{held_of, found_of, referred_to}
use Rattle.recent.specs.SoundRegisters.{absent, numbers_test, register_test, contents_test, recent_test}
use Rattle.fresh.specs.Fresh.{fresh_of}
use Rattle.layout_soundness.specs.SoundLayout.{all_from, segment_test, stack_test, rights_test, start_test, gate_test, gates_test, ranges_test, layout_test}
use Rattle.soundness.specs.Sound.{registers_test, pointer_test, pointers_test, capability_test, empty_capability, empty_pointer, empty_frame, frame_test, frames_test, sound_test}
use Rattle.capabilities.specs.Search.{covers_of, first_of}
use Rattle.references.specs.declared.flag.Flag.TheVariants as flag
use Rattle.references.specs.Flag.{has}
use Rattle.references.specs.Static.{exists, rights_of, static_of}
use Rattle.references.specs.Live.{live_match, live_through, passed_of}
use Rattle.references.specs.Reference.{verdict_of, locate_of, reference_of}
use Rattle.references.specs.Check.{static_check, check}
use Rattle.references.specs.Made.{renewed, renewed_all}
use Rattle.memory.specs.Reader.{read_of, fetch_of, read_word, fetch}
use Rattle.addressing.specs.Effective.{displaced_by, through_of, effective_of}
use Rattle.transfers.specs.Transfer.{jump_check, call_way}
use Rattle.instructions.specs.Instruction.{jump_of, call_of, return_of, load_of, is_load, is_store, value_of, effect_of, execute_of, plan_of}
use Rattle.instructions.specs.Made.{indirect_place, made_at, made_by}
use Rattle.arguments.specs.ArgumentList.{list_word, list_pointer, source_of, capability_of, argument_of, arguments_from, frame_after, frame_of}
use Rattle.crossings.specs.Crossing.{called_recent, left_recent, entered, left, enter_of, leave_check, leave_of}
use Rattle.runs.specs.Step.{recent_after, decide, commit, execute}
use Rattle.runs.specs.Run.{ran, halted, spent, run_from}
use Rattle.processor.specs.Calls.{run_of}
use Rattle.executions.specs.Statements.{SoundRecord, CalledTo}
use Rattle.list_theorems.specs.Statements.{live, ListSource, Listed, read_by, list_place, reads}
use Rattle.list_theorems.proofs.Calls.{call-listed}
use Rattle.list_theorems.proofs.ListReads.{list_read}

-- a row of n numbers that begins as given and goes on with zeros
abbrev row : ℕ → List ℕ → List ℕ
row n xs = xs ++ replicate (n - length xs) 0

-- code and data of A, of B, of C; B and C have a gate each, which A and B may call
abbrev layout : Layout
layout =
    record {
      lengths = row 16 (4 ∷ 19 ∷ 5 ∷ 2 ∷ 4 ∷ 1 ∷ []);
      gates = row 16 (0 ∷ 0 ∷ 1 ∷ 0 ∷ 1 ∷ []);
      start = record { word = 0; segment = 0; domain = 0 };
      gatedomains = row 16 (0 ∷ 0 ∷ 1 ∷ 0 ∷ 2 ∷ []);
      stacks = row 8 (1 ∷ 3 ∷ 5 ∷ []);
      rights = row 16 (4 ∷ 3 ∷ 8 ∷ []) ++ row 16 (0 ∷ 0 ∷ 4 ∷ 3 ∷ 8 ∷ []) ++ row 96 (0 ∷ 0 ∷ 0 ∷ 0 ∷ 4 ∷ 3 ∷ []);
      segments = 6;
      domains = 3;
    }

unfoldable pub start : Machine
start = fresh_of layout

-- the words, with the answer and with what B keeps of a
abbrev words : ℕ → ℕ → List ℕ → List ℕ
words answer saved rest =
    0x05002003 ∷ 0x0800A000 ∷ 0x01002002 ∷ 0 ∷
    (0x2000 ∷ 20 ∷ answer ∷
    -- A's list for B: the list for C, the amount, the answer
    (3 ∷ 2 ∷ 0 ∷ 0x100C ∷ 0x40000007 ∷ 0x1001 ∷ 0x40000001 ∷ 0x1002 ∷ 0x80000001 ∷
    -- A's list for C, which returns to B: the amount and the answer, tagged
    (2 ∷ 0x2003 ∷ 0 ∷ 0x80001001 ∷ 0x40000001 ∷ 0x80001002 ∷ 0x80000001 ∷
    (0x06002001 ∷ 0x05008003 ∷ 0x0800A000 ∷ 0x0500A001 ∷ 0x09008001 ∷
    (0x4000 ∷ saved ∷
    (0x01000000 ∷ 0x03008003 ∷ 0x02008005 ∷ 0x09008001 ∷ 0 ∷ rest))))))

unfoldable pub memory : List ℕ → List ℕ
memory rest = words 0 0 rest

-- as B calls C
unfoldable pub relayed : List ℕ → List ℕ
relayed rest = words 0 0x80001003 rest

-- a read capability on segment 1
abbrev readable : ℕ → ℕ → ℕ → Capability
readable word length source = record { word = word; length = length; segment = 1; source = source; read = true; write = false }

-- an empty register with a recency number
abbrev empty : ℕ → Register
empty n = register no_capability 0 n

-- B's frame: what A handed to it, the list for C first, and last A's list for B
abbrev frame_of_b : Frame
frame_of_b =
    record {
      capabilities =
          readable 12 7 0 ∷
          readable 1 1 0 ∷
          record { word = 2; length = 1; segment = 1; source = 0; read = false; write = true } ∷
          readable 3 9 0 ∷
          replicate 5 no_capability;
      s = no_pointer;
      back = record { word = 2; segment = 0; tag = false };
      count = 4;
      domain = 0;
    }

-- C's frame: the arguments, passed on, and last the list, of a source
abbrev frame_of_c : ℕ → Frame
frame_of_c source =
    record {
      capabilities =
          readable 1 1 0 ∷
          record { word = 2; length = 1; segment = 1; source = 0; read = false; write = true } ∷
          readable 12 7 source ∷
          replicate 6 no_capability;
      s = no_pointer;
      back = record { word = 3; segment = 2; tag = false };
      count = 3;
      domain = 1;
    }

abbrev pointers : ℕ → ℕ → List Pointer
pointers list stack = set (set (replicate 8 no_pointer) 0 (record { word = list; segment = 1; tag = true })) 2 (record { word = 0; segment = stack; tag = false })

-- B about to call, with a at the list for C; the call of B entered its list in a register
unfoldable pub relaying : Machine
relaying =
    record {
      layout = layout;
      registers = record { a = 0; word = 2; segment = 2; domain = 1 };
      pointers = pointers 12 3;
      frames = set (replicate 8 free_frame) 0 frame_of_b;
      recent = register (readable 3 9 0) 1 15 ∷ empty_from 15 0;
      depth = 1;
    }

-- C called, the list of a source; the call read the list by B's first capability, and entered it for C
unfoldable pub called : ℕ → Machine
called source =
    record {
      layout = layout;
      registers = record { a = 0; word = 0; segment = 4; domain = 2 };
      pointers = pointers 12 5;
      frames = set (set (replicate 8 free_frame) 0 frame_of_b) 1 (frame_of_c source);
      recent = register (readable 3 9 0) 1 13 ∷ register (readable 12 7 0) 1 14 ∷ register (readable 12 7 source) 2 15 ∷ empty_from 13 0;
      depth = 2;
    }

-- the end: A has the answer, no frame is in use, and the returns cleared all registers
unfoldable pub finished : Machine
finished =
    record {
      layout = layout;
      registers = record { a = 22; word = 3; segment = 0; domain = 0 };
      pointers = pointers 3 1;
      frames = replicate 8 free_frame;
      recent = empty 1 ∷ empty 0 ∷ empty 4 ∷ empty 2 ∷ empty 3 ∷ empty_from 11 5;
      depth = 0;
    }

pub record Computed (rest : List ℕ) : Type 0 where
  -- four instructions to B's call, which makes A the source of C's list
  pub before : run_of 4 start (memory rest) ≡ ran relaying (relayed rest) 4 spent
  pub call : run_of 1 relaying (relayed rest) ≡ ran (called 0) (relayed rest) 1 spent
  -- C reads its list; with B as its source it would get 25
  pub reads : (run_of 1 (called 0) (relayed rest)).machine.registers.a ≡ 2
  pub fails : execute (called 1) (relayed rest) ≡ refuse 25
  -- C adds and stores through its arguments, and returns through B to A
  pub whole : run_of 1000 start (memory rest) ≡ ran finished (words 22 0x80001003 rest) 13 halted

pub computed : (rest : List ℕ) → Computed rest
unfolding field common sum_of signed_of displaced_of pointer_word pointer_of instruction_of mode_of base_of bases_of fresh_of has exists rights_of static_of covers_of
    first_of
    yields all_yield same may_enter risen touched filled order_of before cleared listed held_of found_of referred_to live_match live_through passed_of renewed renewed_all
    verdict_of locate_of reference_of check read_of fetch_of read_word fetch displaced_by through_of effective_of jump_check call_way jump_of call_of return_of load_of is_load is_store value_of effect_of execute_of plan_of
    indirect_place made_at made_by list_word list_pointer source_of capability_of argument_of arguments_from frame_after frame_of
    called_recent left_recent entered left enter_of leave_check leave_of recent_after decide commit execute run_from
    start memory relayed relaying called finished
computed rest = record { before = refl; call = refl; reads = refl; fails = refl; whole = refl }

-- the theorem of a called domain's read, of this call: word k of C's list is read by the rights of A, which has R there
sound : SoundRecord relaying
unfolding relaying base_of has rights_of all_from segment_test stack_test rights_test start_test gate_test gates_test ranges_test layout_test registers_test pointer_test
    pointers_test
    capability_test empty_capability empty_pointer empty_frame frame_test frames_test absent numbers_test yields same may_enter register_test contents_test recent_test sound_test
sound = (refl, refl)

calls : (rest : List ℕ) → CalledTo relaying (relayed rest) (called 0)
unfolding field common signed_of displaced_of pointer_of instruction_of mode_of base_of bases_of has exists rights_of static_of covers_of first_of
    yields all_yield same may_enter touched filled listed held_of found_of referred_to live_match live_through passed_of renewed renewed_all
    verdict_of locate_of reference_of read_of fetch_of read_word fetch displaced_by through_of effective_of call_way call_of is_load is_store effect_of execute_of plan_of
    list_word list_pointer source_of capability_of argument_of arguments_from frame_after frame_of called_recent entered enter_of relayed relaying called
calls rest = record { gate = record { word = 0; segment = 4; tag = false }; asked = refl; made = refl }

-- C's list has two arguments, and its source is A: the capability that covers it is the first of B's frame
list-of-c : (rest : List ℕ) (l : Listed relaying (relayed rest) (called 0)) → (l.arguments ≡ 2) × (l.source ≡ 0)
unfolding field signed_of displaced_of base_of bases_of has exists rights_of static_of covers_of first_of held_of found_of live_match live_through verdict_of locate_of
    reference_of read_of read_word displaced_by list_word relayed relaying called
list-of-c rest l = (two, first l.arguments two l.source l.whose)
  where
    two : l.arguments ≡ 2
    two = let e = l.counted in cc

    first : (n : ℕ) → n ≡ 2 → (source : ℕ) → ListSource relaying n true source → source ≡ 0
    first n e source q = let z = rw e at q in cc

-- no argument of C's covers a word of the list
no-argument : (k j : ℕ) → j < 2 → reads (get_or (live (called 0)).capabilities j no_capability) (list_place relaying k) ≡ false
unfolding covers_of relaying called
no-argument k zero h = simp (le-leb 1 (12 + k) (omega arith), lt-leb (12 + k + 1) 2 (omega arith))
no-argument k (suc zero) h = simp (le-leb 2 (12 + k) (omega arith), lt-leb (12 + k + 1) 3 (omega arith))
no-argument k (suc (suc j)) h = absurd (omega arith)

-- so the theorem of a called domain's read gives each word of it by A's rights
pub c-reads : (rest : List ℕ) (k : ℕ) → k < 7 → read_word (called 0) (relayed rest) (list_place relaying k) ≡ read_by (relayed rest) (static_check relaying 0 flag.Read 1 (12 + k))
unfolding relaying
c-reads rest k h =
    let l = call-listed relaying (called 0) (relayed rest) sound (calls rest) in
    let t = list-of-c rest l in
    list_read relaying (called 0) (relayed rest) sound (calls rest) l k (omega (arith, t.0)) (λ j i. no-argument k j (omega (arith, t.0)))
    ∙ ap (λ (source : ℕ). read_by (relayed rest) (static_check relaying source flag.Read 1 (12 + k))) t.1
