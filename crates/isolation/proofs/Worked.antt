-- A worked pair: two domains, two hidden words that differ, a program that stores, in one of them too, and crosses.
use Prim.Native.Nat.{ℕ, ◌+◌, ◌-◌, ◌≤◌}
use native.Mathlib.Omega.{arith}
use native.Mathlib.Nat.{le_of_eq}
use mathlib.Core.Bool.{true, false, ◌||◌}
use mathlib.Core.List.{List, [], ◌∷◌, ◌++◌}
use mathlib.Core.Path.{◌≡◌, refl, sym, ◌∙◌}
use lib.ListN.{length, set, replicate, length-replicate}
use Rattle.words.specs.Field.{field, common}
use Rattle.words.specs.Offset.{signed_of, displaced_of, literal_of}
use Rattle.words.specs.PointerWord.{pointer_of}
use Rattle.words.specs.InstructionWord.{instruction_of}
use Rattle.words.specs.ModeWord.{mode_of}
use Rattle.state.specs.declared.record.Capability.{Capability}
use Rattle.state.specs.declared.record.Machine.{Machine}
use Rattle.state.specs.Record.{no_pointer, no_capability, free_frame}
use Rattle.state.specs.Bases.{base_of, bases_of}
use Rattle.recent.specs.Entering.{yields, all_yield, same, may_enter}
use Rattle.recent.specs.Registers.{register, empty_from, fresh_registers, with_entry as filled, listed}
use Rattle.recent.specs.Found.{held_of, found_of}
use Rattle.recent.specs.SoundRegisters.{absent, numbers_test, register_test, contents_test, recent_test}
use Rattle.layout_soundness.specs.SoundLayout.{all_from, segment_test, stack_test, rights_test, start_test, gate_test, gates_test, ranges_test, layout_test}
use Rattle.soundness.specs.Sound.{registers_test, pointer_test, pointers_test, capability_test, empty_capability, empty_pointer, empty_frame, frame_test, frames_test, sound_test}
use Rattle.references.specs.declared.flag.Flag.TheVariants as flag
use Rattle.references.specs.declared.flag.Access.TheVariants as access
use Rattle.references.specs.Flag.{has}
use Rattle.references.specs.Static.{exists, rights_of, static_of}
use Rattle.capabilities.specs.Search.{covers_of, first_of}
use Rattle.references.specs.Live.{live_match, live_of, live_through}
use Rattle.references.specs.Reference.{verdict_of, locate_of, reference_of}
use Rattle.references.specs.Check.{check}
use Rattle.references.specs.Made.{renewed, renewed_all}
use Rattle.memory.specs.Reader.{read_of, fetch_of, read_word, fetch}
use Rattle.addressing.specs.Effective.{displaced_by, through_of, effective_of}
use Rattle.transfers.specs.Transfer.{jump_check, call_way}
use Rattle.instructions.specs.Instruction.{load_of, branch_of, call_of, is_load, is_store, value_of, taken_of, effect_of, execute_of, plan_of, jump_of, return_of}
use Rattle.instructions.specs.Made.{indirect_place, made_at, made_by}
use Rattle.arguments.specs.ArgumentList.{list_word, list_pointer, source_of, capability_of, argument_of, arguments_from, frame_after, frame_of}
use Rattle.crossings.specs.Crossing.{called_recent, entered, enter_of}
use Rattle.runs.specs.Step.{recent_after, decide, commit, execute}
use Rattle.runs.specs.Run.{ran, crossed, run_from}
use Rattle.processor.specs.Calls.{stretch_of}
use Rattle.isolation.specs.Visible.{by_static, by_live, may_see, could_write, existing, place, word_at}
use Rattle.isolation.specs.Stores.{stores_of}
use Rattle.isolation.specs.Isolation.{Agree, Isolated}
use Rattle.isolation.proofs.Unseen.{hidden-agrees}
use Rattle.isolation.proofs.Main.{isolation}

-- a row of n numbers that begins as given and goes on with zeros
abbrev row : ℕ → List ℕ → List ℕ
row n xs = xs ++ replicate (n - length xs) 0

-- domain 0 executes segment 0, reads and writes segment 1, may call the gate in segment 2 and writes segment 3, which it may not read;
-- domain 1 executes segment 2, reads and writes segment 3
unfoldable pub start : Machine
start = record {
  layout = record {
    lengths = row 16 (6 ∷ 8 ∷ 2 ∷ 4 ∷ []);
    gates = row 16 (0 ∷ 0 ∷ 1 ∷ []);
    start = record { word = 0; segment = 0; domain = 0 };
    gatedomains = row 16 (0 ∷ 0 ∷ 1 ∷ []);
    stacks = row 8 (1 ∷ 3 ∷ []);
    rights = row 16 (4 ∷ 3 ∷ 8 ∷ 2 ∷ []) ++ row 112 (0 ∷ 0 ∷ 4 ∷ 3 ∷ []);
    segments = 4;
    domains = 2;
  };
  registers = record { a = 0; word = 0; segment = 0; domain = 0 };
  pointers = set (replicate 8 no_pointer) 2 (record { word = 0; segment = 1; tag = false });
  frames = replicate 8 free_frame;
  recent = fresh_registers;
  depth = 0;
}

-- segment 0: LIT n; STORE at b + 6; STORE through the pointer at b + 7; EPP a, b + 1; CALL through the pointer at b; HALT
-- segment 1: a pointer to the gate; an argument list of one argument, word 6 to read; word 6; a pointer to word 1 of segment 3
-- segment 2: LOAD through the first argument; HALT
-- segment 3: a number that domain 1 keeps for itself, twice
unfoldable pub memory : (n hidden : ℕ) → List ℕ → List ℕ
memory n hidden rest =
    (0x0C000000 + n) ∷ 0x02002006 ∷ 0x0200A007 ∷ 0x05002001 ∷ 0x0800A000 ∷ 0 ∷
    (0x2000 ∷ 1 ∷ 5 ∷ 0 ∷ 0x1006 ∷ 0x40000001 ∷ 0 ∷ 0x3001 ∷
    (0x01008003 ∷ 0 ∷
    (hidden ∷ hidden ∷ 0 ∷ 0 ∷ rest)))

-- the memory when n is stored
abbrev after : (n hidden : ℕ) → List ℕ → List ℕ
after n hidden rest = set (set (memory n hidden rest) (place start 1 6) n) (place start 3 1) n

-- the read capability for the list, which the call enters in the first register
abbrev list : Capability
list = record { word = 1; length = 5; segment = 1; source = 0; read = true; write = false }

-- the machine when n is stored and domain 1 is entered
unfoldable pub called : ℕ → Machine
called n = record {
  layout = start.layout;
  registers = record { a = n; word = 0; segment = 2; domain = 1 };
  pointers = set (set (replicate 8 no_pointer) 0 (record { word = 1; segment = 1; tag = true })) 2 (record { word = 0; segment = 3; tag = false });
  frames = set (replicate 8 free_frame) 0 (record {
    capabilities =
        record { word = 6; length = 1; segment = 1; source = 0; read = true; write = false } ∷
        list ∷
        replicate 7 no_capability;
    s = no_pointer;
    back = record { word = 5; segment = 0; tag = false };
    count = 2;
    domain = 0;
  });
  recent = register list 1 15 ∷ empty_from 15 0;
  depth = 1;
}

-- what is computed, for every number that is hidden and every rest of the memory
pub record Computed (hidden : ℕ) (rest : List ℕ) : Type 0 where
  -- five instructions, stores in word 6 of segment 1 and word 1 of segment 3, and a crossing
  pub five : stretch_of 100 start (memory 5 hidden rest) ≡ ran (called 5) (after 5 hidden rest) 5 crossed
  pub six : stretch_of 100 start (memory 6 hidden rest) ≡ ran (called 6) (after 6 hidden rest) 5 crossed
  -- the numbers that words receive
  pub stores : stores_of 100 start (memory 5 hidden rest) ≡ record { segment = 1; word = 6; value = 5 } ∷ record { segment = 3; word = 1; value = 5 } ∷ []
  -- then domain 1 gets its argument through the live frame
  pub loads : (n : ℕ) → (stretch_of 1 (called 5) (set (memory 5 hidden rest) (place start 1 6) n)).machine.registers.a ≡ n
  -- domain 0 may not see words 0 and 1 of segment 3, and could write them; it may execute word 0 of segment 0 and not read it
  pub secret : (existing start 3 0 ≡ true) × (may_see start 3 0 ≡ false)
  pub covered : (existing start 3 1 ≡ true) × (may_see start 3 1 ≡ false)
  pub writable : could_write start 3 1 ≡ true
  pub code : (existing start 0 0 ≡ true) × ((by_static start flag.Read 0 0 || by_live start access.Read 0 0) ≡ false)
  -- domain 1 has no static rights on its argument, nor W by the live frame
  pub argument : (existing start 1 6 ≡ true) × ((by_static (called 5) flag.Execute 1 6 || by_static (called 5) flag.Read 1 6) ≡ false)
  pub unwritable : could_write (called 5) 1 6 ≡ false
  pub written : word_at start (after 5 hidden rest) 1 6 ≡ 5

pub computed : (hidden : ℕ) (rest : List ℕ) → Computed hidden rest
unfolding field common signed_of displaced_of literal_of pointer_of instruction_of mode_of base_of bases_of has exists rights_of static_of covers_of first_of yields
    all_yield filled listed held_of found_of live_match live_of live_through verdict_of locate_of reference_of check renewed renewed_all read_of fetch_of read_word fetch
    displaced_by through_of effective_of jump_check call_way load_of branch_of call_of is_load is_store value_of taken_of effect_of execute_of plan_of jump_of return_of
    indirect_place made_at made_by list_word list_pointer source_of capability_of argument_of arguments_from frame_after frame_of called_recent entered enter_of
    recent_after decide commit execute run_from stores_of may_see could_write start memory called
computed hidden rest = record {
  five = refl;
  six = refl;
  stores = refl;
  loads = λ n. refl;
  secret = (refl, refl);
  covered = (refl, refl);
  writable = refl;
  code = (refl, refl);
  argument = (refl, refl);
  unwritable = refl;
  written = refl;
}

-- both machines are sound
pub start-sound : sound_test start ≡ true
unfolding start base_of has rights_of all_from segment_test stack_test rights_test start_test gate_test gates_test ranges_test layout_test registers_test pointer_test
    pointers_test capability_test empty_capability empty_pointer empty_frame frame_test frames_test absent numbers_test same register_test contents_test recent_test
    sound_test
start-sound = refl

pub called-sound : sound_test (called 5) ≡ true
unfolding start called base_of has rights_of all_from segment_test stack_test rights_test start_test gate_test gates_test ranges_test layout_test registers_test
    pointer_test pointers_test capability_test empty_capability empty_pointer empty_frame frame_test frames_test absent numbers_test yields same may_enter
    register_test contents_test recent_test sound_test
called-sound = refl

-- a memory whose rest is long enough has 8,192 words; such a rest, of zeros
pub fits : (n hidden : ℕ) (rest : List ℕ) → 8172 ≤ length rest → 8192 ≤ length (memory n hidden rest)
unfolding memory
fits n hidden rest long = omega arith

pub zeros : List ℕ
zeros = replicate 8172 0

pub enough : 8172 ≤ length zeros
unfolding zeros
enough = le_of_eq (sym (length-replicate {A = ℕ} 8172 0))

-- the two memories agree, and the theorem holds of them; the two stretches are those of `five`
pub agrees : (rest : List ℕ) → Agree start (memory 5 7 rest) (memory 5 9 rest)
unfolding start memory bases_of base_of
agrees rest s k e =
    let c = computed 7 rest in
    let w = memory 5 7 rest in
    hidden-agrees start w 3 0 9 c.secret.0 c.secret.1 s k e ∙ hidden-agrees start (set w (place start 3 0) 9) 3 1 9 c.covered.0 c.covered.1 s k e

pub pair : Isolated start (memory 5 7 zeros) (memory 5 9 zeros) (stretch_of 100 start (memory 5 7 zeros)) (stretch_of 100 start (memory 5 9 zeros))
    (stores_of 100 start (memory 5 7 zeros)) (stores_of 100 start (memory 5 9 zeros))
pair = isolation start start-sound 100 (memory 5 7 zeros) (memory 5 9 zeros) (fits 5 7 zeros enough) (fits 5 9 zeros enough) (agrees zeros)
