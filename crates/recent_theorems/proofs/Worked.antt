-- A worked machine: a call through a gate enters the list's capability, LOADs match and enter, a return clears, a fault leaves all.
use Prim.Native.Nat.{ℕ, ◌-◌}
use mathlib.Core.Bool.{true, false}
use mathlib.Core.List.{List, [], ◌∷◌, ◌++◌, map}
use mathlib.Core.Path.{◌≡◌, refl}
use lib.ListN.{length, replicate}
use Rattle.words.specs.Field.{field, common}
use Rattle.words.specs.Offset.{signed_of, displaced_of}
use Rattle.words.specs.PointerWord.{pointer_of}
use Rattle.words.specs.InstructionWord.{instruction_of}
use Rattle.words.specs.ModeWord.{mode_of}
use Rattle.state.specs.declared.record.Layout.{Layout}
use Rattle.state.specs.declared.record.Capability.{Capability}
use Rattle.state.specs.declared.record.Frame.{Frame}
use Rattle.state.specs.declared.record.Machine.{Machine}
use Rattle.words.specs.declared.pointer.Pointer.{Pointer}
use Rattle.state.specs.Record.{no_capability}
use Rattle.state.specs.Bases.{base_of, bases_of}
use Rattle.fresh.specs.Fresh.{fresh_of}
use Rattle.layout_soundness.specs.SoundLayout.{all_from, segment_test, stack_test, rights_test, start_test, gate_test, gates_test, ranges_test, layout_test}
use Rattle.soundness.specs.Sound.{registers_test, pointer_test, pointers_test, capability_test, empty_capability, empty_pointer, empty_frame, frame_test, frames_test, sound_test}
use Rattle.capabilities.specs.Search.{covers_of, first_of}
use Rattle.recent.specs.Entering.{shares, yields, all_yield, same, may_enter}
use Rattle.recent.specs.Registers.{register, empty_from, risen, touched, with_entry as filled, order_of, before, cleared, listed}
use Rattle.recent.specs.SoundRegisters.{absent, numbers_test, register_test, contents_test, recent_test}
use Rattle.recent.specs.Found.{held_of, found_of, referred_to}
use Rattle.references.specs.Flag.{has}
use Rattle.references.specs.Static.{exists, rights_of, static_of}
use Rattle.references.specs.Live.{live_through}
use Rattle.references.specs.Reference.{verdict_of, locate_of, reference_of}
use Rattle.references.specs.Made.{made_read, renewed, renewed_all}
use Rattle.memory.specs.Reader.{read_of, fetch_of, read_word, fetch}
use Rattle.addressing.specs.Effective.{displaced_by, through_of, effective_of}
use Rattle.transfers.specs.Transfer.{call_way}
use Rattle.instructions.specs.Instruction.{call_of, return_of, load_of, is_load, is_store, effect_of, execute_of, plan_of}
use Rattle.instructions.specs.Made.{indirect_place, made_at, made_by}
use Rattle.arguments.specs.ArgumentList.{list_made, list_word, list_pointer, source_of, capability_of, argument_of, arguments_from, frame_after, frame_of}
use Rattle.crossings.specs.Crossing.{called_recent, left_recent, entered, left, enter_of, leave_check, leave_of}
use Rattle.runs.specs.Step.{recent_after, decide, commit, execute}
use Rattle.runs.specs.Run.{Ran, faulted, run_from}
use Rattle.processor.specs.Calls.{run_of}

-- a row of n numbers that begins as given and goes on with zeros
abbrev row : ℕ → List ℕ → List ℕ
row n xs = xs ++ replicate (n - length xs) 0

-- domain 0 executes segment 0, reads and writes segment 1 and may call the gate in segment 2, which domain 1 executes
abbrev layout : Layout
layout =
    record {
      lengths = row 16 (3 ∷ 10 ∷ 4 ∷ 1 ∷ []);
      gates = row 16 (0 ∷ 0 ∷ 1 ∷ []);
      start = record { word = 0; segment = 0; domain = 0 };
      gatedomains = row 16 (0 ∷ 0 ∷ 1 ∷ []);
      stacks = row 8 (1 ∷ 3 ∷ []);
      rights = row 16 (4 ∷ 3 ∷ 8 ∷ []) ++ row 112 (0 ∷ 0 ∷ 4 ∷ 3 ∷ []);
      segments = 4;
      domains = 2;
    }

unfoldable pub start : Machine
start = fresh_of layout

-- segment 0: EPP a, b + 1; CALL through the pointer at b; HALT
-- segment 1: a pointer to the gate; an argument list of two arguments, words 8 and 9 to read; the two words
-- segment 2: LOAD through the first argument; LOAD through the second; LOAD through the first; a last instruction
unfoldable pub memory : ℕ → List ℕ → List ℕ
memory last rest =
    0x05002001 ∷ 0x0800A000 ∷ 0 ∷
    (0x2000 ∷ 2 ∷ 2 ∷ 0 ∷ 0x1008 ∷ 0x40000001 ∷ 0x1009 ∷ 0x40000001 ∷ 20 ∷ 22 ∷
    (0x01008003 ∷ 0x01008005 ∷ 0x01008003 ∷ last ∷
    (0 ∷ rest)))

-- RET through word 1 of the list; LOAD through the same word, which no capability covers where it points
abbrev returning : ℕ
returning = 0x09008001

abbrev failing : ℕ
failing = 0x01008001

-- words of segment 1, to read, of domain 0
abbrev on : ℕ → ℕ → Capability
on word length = record { word = word; length = length; segment = 1; source = 0; read = true; write = false }

abbrev list : Capability
list = on 1 7

abbrev after : ℕ → ℕ → List ℕ → Ran
after k last rest = run_of k start (memory last rest)

pub record Computed (rest : List ℕ) : Type 0 where
  -- the call enters the list with 15
  pub called : (after 2 returning rest).machine.recent ≡ register list 1 15 ∷ empty_from 15 0
  -- LOAD: the list, which has 15, matches; then the first argument is entered
  pub first : (after 3 returning rest).machine.recent ≡ register list 1 14 ∷ register (on 8 1) 1 15 ∷ empty_from 14 0
  -- LOAD: the list rises from 14 to 15; then the second argument is entered
  pub second : (after 4 returning rest).machine.recent ≡ register list 1 14 ∷ register (on 8 1) 1 13 ∷ register (on 9 1) 1 15 ∷ empty_from 13 0
  -- LOAD: the list rises, then the first argument
  pub again : (after 5 returning rest).machine.recent ≡ register list 1 14 ∷ register (on 8 1) 1 15 ∷ register (on 9 1) 1 13 ∷ empty_from 13 0
  -- with three registers filled the record is sound
  pub sound : sound_test (after 5 returning rest).machine ≡ true
  -- RET: the list rises, then the three are cleared and get the lowest numbers, in the order of their old ones
  pub returned : (after 6 returning rest).machine.recent ≡ register no_capability 0 2 ∷ register no_capability 0 1 ∷ register no_capability 0 0 ∷ empty_from 13 3
  -- LOAD: the list matches, and the word where it points gives 24; the registers stay
  pub failed : ((after 6 failing rest).ending ≡ faulted 24) × ((after 6 failing rest).count ≡ 5)
  pub kept : (after 6 failing rest).machine.recent ≡ register list 1 14 ∷ register (on 8 1) 1 15 ∷ register (on 9 1) 1 13 ∷ empty_from 13 0

pub computed : (rest : List ℕ) → Computed rest
unfolding field common signed_of displaced_of pointer_of instruction_of mode_of base_of bases_of fresh_of has exists rights_of static_of covers_of first_of shares yields all_yield same may_enter
    risen touched filled order_of before cleared listed held_of found_of referred_to live_through verdict_of locate_of reference_of renewed renewed_all read_of fetch_of read_word fetch
    displaced_by through_of effective_of call_way call_of return_of load_of is_load is_store effect_of execute_of plan_of indirect_place made_at made_by
    list_word list_pointer source_of capability_of argument_of arguments_from frame_after frame_of called_recent left_recent entered left enter_of leave_check leave_of
    recent_after decide commit execute run_from start memory
    all_from segment_test stack_test rights_test start_test gate_test gates_test ranges_test layout_test registers_test pointer_test pointers_test capability_test empty_capability empty_pointer empty_frame frame_test
    frames_test sound_test absent numbers_test register_test contents_test recent_test
computed rest = record { called = refl; first = refl; second = refl; again = refl; sound = refl; returned = refl; failed = (refl, refl); kept = refl }

-- words 8 to 14 of segment 1 as a list of two arguments, handed on through a tagged a by a domain to which a frame lends them
abbrev handed : Pointer
handed = record { word = 8; segment = 1; tag = true }

abbrev framed : List Capability → Frame
framed cs = record { capabilities = cs; s = handed; back = handed; count = length cs; domain = 0 }

-- its words are noted but for word 2
list-noted : list_made handed 7 0 ≡ map (λ word. made_read (record { word = word; segment = 1; tag = true })) (8 ∷ 9 ∷ 11 ∷ 12 ∷ 13 ∷ 14 ∷ [])
unfolding displaced_of displaced_by
list-noted = refl

-- so the capability that lends them is entered for frame 1, and then the list's for frame 2
relay-called : called_recent (empty_from 16 0) 1 (framed (on 8 7 ∷ [])) handed (framed (on 20 1 ∷ on 21 1 ∷ on 8 7 ∷ [])) ≡ register (on 8 7) 1 14 ∷ register (on 8 7) 2 15 ∷ empty_from 14 0
unfolding displaced_of displaced_by covers_of first_of shares yields all_yield same may_enter risen touched filled listed held_of found_of referred_to renewed renewed_all called_recent
relay-called = refl
