-- Every row of the table holds: one test that is computed over the table, and what it says of each row.
use Rattle.std.specs.Prelude.{if◌then◌else◌}
use Prim.Native.Nat.{ℕ, suc, zero}
use mathlib.Core.Bool.{Bool, true, false}
use mathlib.Core.List.Memᴰ
use mathlib.Core.List.{List, [], ◌∷◌, Memᴰ}
use mathlib.Core.Logic.{⊎_elim}
use mathlib.Core.Path.{◌≡◌, refl, ap}
use native.Mathlib.Omega.{arith}
use borrow.Author.Tests.{eqb-true}
use lib.ListN.{take, drop}
use lib.Dec.{eqb}
use Rattle.words.specs.Answer.{Answer, refuse, ok}
use Rattle.words.specs.Field.{field, common}
use Rattle.words.specs.Arithmetic.{sum_of, difference_of}
use Rattle.words.specs.PointerWord.{pointer_word, pointer_of}
use Rattle.words.specs.Offset.{signed_of, displaced_of, literal_of}
use Rattle.words.specs.InstructionWord.{instruction_of}
use Rattle.words.specs.ModeWord.{mode_of}
use Rattle.state.specs.Bases.{base_of, bases_of}
use Rattle.fresh.specs.Fresh.{fresh_of}
use Rattle.layout_soundness.specs.SoundLayout.{all_from, segment_test, stack_test, rights_test, start_test, gate_test, gates_test, ranges_test, layout_test}
use Rattle.soundness.specs.Sound.{registers_test, pointer_test, pointers_test, capability_test, empty_capability, empty_pointer, empty_frame, frame_test, frames_test, sound_test}
use Rattle.references.specs.Flag.{has}
use Rattle.references.specs.Static.{exists, rights_of, static_of}
use Rattle.capabilities.specs.Search.{covers_of, first_of}
use Rattle.recent.specs.Entering.{shares, yields, all_yield, same as same-capability, may_enter}
use Rattle.recent.specs.Registers.{risen, touched, with_entry as filled, order_of, before, cleared, listed}
use Rattle.recent.specs.Found.{held_of, found_of, referred_to}
use Rattle.recent.specs.SoundRegisters.{absent, numbers_test, register_test, contents_test, recent_test}
use Rattle.references.specs.Live.{live_match, live_of, live_through, passed_of}
use Rattle.references.specs.Made.{renewed, renewed_all}
use Rattle.instructions.specs.Made.{indirect_place, made_at, made_by}
use Rattle.references.specs.Reference.{verdict_of, locate_of, reference_of}
use Rattle.references.specs.Check.{static_check, check}
use Rattle.record_checks.specs.Judged.{judged_static, judged_check}
use Rattle.memory.specs.Reader.{read_of, fetch_of, read_word, fetch}
use Rattle.addressing.specs.Effective.{displaced_by, through_of, effective_of}
use Rattle.transfers.specs.Transfer.{jump_check, call_way}
use Rattle.instructions.specs.Instruction.{jump_of, call_of, return_of, load_of, branch_of, is_load, is_store, value_of, taken_of, effect_of, execute_of, plan_of}
use Rattle.arguments.specs.ArgumentList.{list_word, source_of, capability_of, list_pointer, argument_of, arguments_from, frame_after, frame_of}
use Rattle.crossings.specs.Crossing.{entered, left, enter_of, leave_check, leave_of, called_recent, left_recent}
use Rattle.runs.specs.Step.{decide, commit, execute, recent_after}
use Rattle.runs.specs.Run.{run_from, judged, called_of}
use Rattle.processor.specs.Calls.{run_call}
use Rattle.segments.specs.Segment.{segment_check}
use Rattle.isolation.specs.Visible.{may_see, could_write}
use Rattle.readings.specs.Question.{answer, Row}
use Rattle.readings.specs.Table.{table}
use Rattle.readings.specs.Statements.{Readings}

abbrev both : Bool → Bool → Bool
both a b = if a then b else false

abbrev same_list : List ℕ → List ℕ → Bool
same_list [] [] = true
same_list [] (y ∷ ys) = false
same_list (x ∷ xs) [] = false
same_list (x ∷ xs) (y ∷ ys) = both (eqb x y) (same_list xs ys)

abbrev same : Answer (List ℕ) → Answer (List ℕ) → Bool
same (refuse m) (refuse n) = eqb m n
same (refuse m) (ok ys) = false
same (ok xs) (refuse n) = false
same (ok xs) (ok ys) = same_list xs ys

-- every row's question has the answer that is due
abbrev hold : List Row → Bool
hold [] = true
hold (r ∷ rs) = both (same (answer r.asked) r.due) (hold rs)

never : {A : Type 0} → false ≡ true → A
never e = absurd (let z : ◌≡◌ {A = ℕ} 0 1 = cc in omega arith)

parts : (a b : Bool) → both a b ≡ true → (a ≡ true) × (b ≡ true)
parts true b e = (refl, e)
parts false b e = never e

same-list : (xs ys : List ℕ) → same_list xs ys ≡ true → xs ≡ ys
same-list [] [] e = refl
same-list [] (y ∷ ys) e = never e
same-list (x ∷ xs) [] e = never e
same-list (x ∷ xs) (y ∷ ys) e = let t = parts (eqb x y) (same_list xs ys) e in λ i. eqb-true x y t.0 i ∷ same-list xs ys t.1 i

same_answer : (a b : Answer (List ℕ)) → same a b ≡ true → a ≡ b
same_answer (refuse m) (refuse n) e = ap refuse (eqb-true m n e)
same_answer (refuse m) (ok ys) e = never e
same_answer (ok xs) (refuse n) e = never e
same_answer (ok xs) (ok ys) e = ap ok (same-list xs ys e)

-- the questions of a table that passes the test have the answers that are due
each : (rs : List Row) → hold rs ≡ true → (r : Row) → Memᴰ r rs → answer r.asked ≡ r.due
each [] e r m = absurd (Memᴰ.not-nil m)
each (q ∷ rs) e r m =
    let t = parts (same (answer q.asked) q.due) (hold rs) e in
    ⊎_elim (λ (p : r ≡ q). rw p (same_answer _ _ t.0)) (λ n. each rs t.1 r n) (Memᴰ.cases_cons m)

-- a table passes where its first n rows and the others do
split : (n : ℕ) (rs : List Row) → hold (take n rs) ≡ true → hold (drop n rs) ≡ true → hold rs ≡ true
split zero rs e f = f
split (suc n) [] e f = refl
split (suc n) (r ∷ rs) e f =
    let t = parts (same (answer r.asked) r.due) (hold (take n rs)) e in
    rw t.0 (split n rs t.1 f)

-- the test, computed a hundred rows at a time: the checker bounds what one computation may take
first : hold (take 100 table) ≡ true
unfolding shares yields all_yield same-capability may_enter risen touched filled order_of before cleared listed held_of found_of referred_to absent numbers_test register_test contents_test recent_test live_through renewed renewed_all
    indirect_place made_at made_by recent_after called_recent left_recent field common pointer_word pointer_of signed_of displaced_of literal_of instruction_of
    base_of bases_of fresh_of all_from segment_test stack_test rights_test start_test gate_test gates_test ranges_test layout_test registers_test pointer_test pointers_test
    capability_test empty_capability empty_pointer empty_frame frame_test frames_test sound_test
    has exists rights_of static_of covers_of first_of live_match live_of passed_of verdict_of locate_of reference_of static_check check judged_static judged_check
    may_see could_write segment_check
    sum_of difference_of read_of fetch_of read_word fetch displaced_by through_of effective_of
    jump_check call_way jump_of call_of return_of load_of branch_of is_load is_store value_of taken_of effect_of execute_of plan_of mode_of list_word source_of capability_of list_pointer argument_of arguments_from frame_after frame_of
    entered left enter_of leave_check leave_of decide commit execute run_from judged called_of run_call
first = refl

second : hold (take 100 (drop 100 table)) ≡ true
unfolding shares yields all_yield same-capability may_enter risen touched filled order_of before cleared listed held_of found_of referred_to absent numbers_test register_test contents_test recent_test live_through renewed renewed_all
    indirect_place made_at made_by recent_after called_recent left_recent field common pointer_word pointer_of signed_of displaced_of literal_of instruction_of
    base_of bases_of fresh_of all_from segment_test stack_test rights_test start_test gate_test gates_test ranges_test layout_test registers_test pointer_test pointers_test
    capability_test empty_capability empty_pointer empty_frame frame_test frames_test sound_test
    has exists rights_of static_of covers_of first_of live_match live_of passed_of verdict_of locate_of reference_of static_check check judged_static judged_check
    may_see could_write segment_check
    sum_of difference_of read_of fetch_of read_word fetch displaced_by through_of effective_of
    jump_check call_way jump_of call_of return_of load_of branch_of is_load is_store value_of taken_of effect_of execute_of plan_of mode_of list_word source_of capability_of list_pointer argument_of arguments_from frame_after frame_of
    entered left enter_of leave_check leave_of decide commit execute run_from judged called_of run_call
second = refl

third : hold (take 100 (drop 200 table)) ≡ true
unfolding shares yields all_yield same-capability may_enter risen touched filled order_of before cleared listed held_of found_of referred_to absent numbers_test register_test contents_test recent_test live_through renewed renewed_all
    indirect_place made_at made_by recent_after called_recent left_recent field common pointer_word pointer_of signed_of displaced_of literal_of instruction_of
    base_of bases_of fresh_of all_from segment_test stack_test rights_test start_test gate_test gates_test ranges_test layout_test registers_test pointer_test pointers_test
    capability_test empty_capability empty_pointer empty_frame frame_test frames_test sound_test
    has exists rights_of static_of covers_of first_of live_match live_of passed_of verdict_of locate_of reference_of static_check check judged_static judged_check
    may_see could_write segment_check
    sum_of difference_of read_of fetch_of read_word fetch displaced_by through_of effective_of
    jump_check call_way jump_of call_of return_of load_of branch_of is_load is_store value_of taken_of effect_of execute_of plan_of mode_of list_word source_of capability_of list_pointer argument_of arguments_from frame_after frame_of
    entered left enter_of leave_check leave_of decide commit execute run_from judged called_of run_call
third = refl

fourth : hold (take 100 (drop 300 table)) ≡ true
unfolding shares yields all_yield same-capability may_enter risen touched filled order_of before cleared listed held_of found_of referred_to absent numbers_test register_test contents_test recent_test live_through renewed renewed_all
    indirect_place made_at made_by recent_after called_recent left_recent field common pointer_word pointer_of signed_of displaced_of literal_of instruction_of
    base_of bases_of fresh_of all_from segment_test stack_test rights_test start_test gate_test gates_test ranges_test layout_test registers_test pointer_test pointers_test
    capability_test empty_capability empty_pointer empty_frame frame_test frames_test sound_test
    has exists rights_of static_of covers_of first_of live_match live_of passed_of verdict_of locate_of reference_of static_check check judged_static judged_check
    may_see could_write segment_check
    sum_of difference_of read_of fetch_of read_word fetch displaced_by through_of effective_of
    jump_check call_way jump_of call_of return_of load_of branch_of is_load is_store value_of taken_of effect_of execute_of plan_of mode_of list_word source_of capability_of list_pointer argument_of arguments_from frame_after frame_of
    entered left enter_of leave_check leave_of decide commit execute run_from judged called_of run_call
fourth = refl

fifth : hold (take 100 (drop 400 table)) ≡ true
unfolding shares yields all_yield same-capability may_enter risen touched filled order_of before cleared listed held_of found_of referred_to absent numbers_test register_test contents_test recent_test live_through renewed renewed_all
    indirect_place made_at made_by recent_after called_recent left_recent field common pointer_word pointer_of signed_of displaced_of literal_of instruction_of
    base_of bases_of fresh_of all_from segment_test stack_test rights_test start_test gate_test gates_test ranges_test layout_test registers_test pointer_test pointers_test
    capability_test empty_capability empty_pointer empty_frame frame_test frames_test sound_test
    has exists rights_of static_of covers_of first_of live_match live_of passed_of verdict_of locate_of reference_of static_check check judged_static judged_check
    may_see could_write segment_check
    sum_of difference_of read_of fetch_of read_word fetch displaced_by through_of effective_of
    jump_check call_way jump_of call_of return_of load_of branch_of is_load is_store value_of taken_of effect_of execute_of plan_of mode_of list_word source_of capability_of list_pointer argument_of arguments_from frame_after frame_of
    entered left enter_of leave_check leave_of decide commit execute run_from judged called_of run_call
fifth = refl

sixth : hold (take 100 (drop 500 table)) ≡ true
unfolding shares yields all_yield same-capability may_enter risen touched filled order_of before cleared listed held_of found_of referred_to absent numbers_test register_test contents_test recent_test live_through renewed renewed_all
    indirect_place made_at made_by recent_after called_recent left_recent field common pointer_word pointer_of signed_of displaced_of literal_of instruction_of
    base_of bases_of fresh_of all_from segment_test stack_test rights_test start_test gate_test gates_test ranges_test layout_test registers_test pointer_test pointers_test
    capability_test empty_capability empty_pointer empty_frame frame_test frames_test sound_test
    has exists rights_of static_of covers_of first_of live_match live_of passed_of verdict_of locate_of reference_of static_check check judged_static judged_check
    may_see could_write segment_check
    sum_of difference_of read_of fetch_of read_word fetch displaced_by through_of effective_of
    jump_check call_way jump_of call_of return_of load_of branch_of is_load is_store value_of taken_of effect_of execute_of plan_of mode_of list_word source_of capability_of list_pointer argument_of arguments_from frame_after frame_of
    entered left enter_of leave_check leave_of decide commit execute run_from judged called_of run_call
sixth = refl

rest : hold (drop 600 table) ≡ true
unfolding shares yields all_yield same-capability may_enter risen touched filled order_of before cleared listed held_of found_of referred_to absent numbers_test register_test contents_test recent_test live_through renewed renewed_all
    indirect_place made_at made_by recent_after called_recent left_recent field common pointer_word pointer_of signed_of displaced_of literal_of instruction_of
    base_of bases_of fresh_of all_from segment_test stack_test rights_test start_test gate_test gates_test ranges_test layout_test registers_test pointer_test pointers_test
    capability_test empty_capability empty_pointer empty_frame frame_test frames_test sound_test
    has exists rights_of static_of covers_of first_of live_match live_of passed_of verdict_of locate_of reference_of static_check check judged_static judged_check
    may_see could_write segment_check
    sum_of difference_of read_of fetch_of read_word fetch displaced_by through_of effective_of
    jump_check call_way jump_of call_of return_of load_of branch_of is_load is_store value_of taken_of effect_of execute_of plan_of mode_of list_word source_of capability_of list_pointer argument_of arguments_from frame_after frame_of
    entered left enter_of leave_check leave_of decide commit execute run_from judged called_of run_call
rest = refl

pub readings : Readings
readings =
    each table
    (split 100 table first (split 100 (drop 100 table) second (split 100 (drop 200 table) third (split 100 (drop 300 table) fourth (split 100 (drop 400 table) fifth
    (split 100 (drop 500 table) sixth rest))))))
