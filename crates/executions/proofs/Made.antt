-- How a completed instruction came by the record that it left.
use Rattle.std.specs.Prelude.{if◌then◌else◌}
use Prim.Native.Nat.{ℕ, ◌+◌, ◌≤◌}
use native.Mathlib.Omega.{arith}
use mathlib.Core.Bool.{Bool, true, false}
use mathlib.Core.List.{List}
use mathlib.Core.Logic.{inl, inr}
use mathlib.Core.Path.{◌≡◌, refl}
use lib.Dec.{leb}
use lib.ListN.{get_or}
use Rattle.words.specs.Answer.{ok}
use Rattle.words.specs.declared.pointer.Pointer.{Pointer}
use Rattle.state.specs.declared.record.Machine.{Machine}
use Rattle.state.specs.Record.{no_pointer, in_use, of_segment}
use Rattle.references.specs.declared.flag.Access.TheVariants as access
use Rattle.references.specs.Check.{check}
use Rattle.memory.specs.Reader.{read_word, fetch}
use Rattle.instructions.specs.Plan.{enter, leave}
use Rattle.crossings.specs.Crossing.{at_place, enter_of, leave_of, entered, left}
use Rattle.runs.specs.Step.{Act, stop, proceed, put, cross, crossing, Done, decide, commit, execute}
use Rattle.executions.proofs.Parts.{live, frame_for, leave_number}
use Rattle.executions.proofs.Says.{Says, said, itself, says-weaker, says-bind, says_then, says-accept}
use Rattle.executions.proofs.Acts.{CrossesTo, decide-crosses}
use Rattle.executions.proofs.Crossings.{leave-facts}
use Rattle.executions.specs.Statements.{planned_by, indirect_by, Made, StepMade}

module _ (m : Machine) (words : List ℕ) where
  abbrev MadeBy : Done → Type 0
  MadeBy d = Made m words d.completion d.machine

  enter-made : (p : Pointer) → planned_by m words ≡ ok (enter p) → Says (Made m words crossing) (enter_of m (read_word m words) p)
  enter-made p a =
      says-weaker _ (Made m words crossing) (enter_of m (read_word m words) p) (itself (enter_of m (read_word m words) p)) (λ n e. inl (record { gate = p; asked = a; made = e }))

  leave-made : (p : Pointer) → planned_by m words ≡ ok (leave p) → Says (Made m words crossing) (leave_of m (indirect_by m words) p)
  leave-made p a =
      says-weaker _ (Made m words crossing) (leave_of m (indirect_by m words) p) (itself (leave_of m (indirect_by m words) p)) (λ n e. inr (record { back = p; asked = a; made = e }))

  commit-made : (a : Act) → CrossesTo (Made m words crossing) a → Says MadeBy (commit m words a)
  unfolding commit
  commit-made stop h = refl
  commit-made (proceed a s w ps rs) h = (refl, refl)
  commit-made (put p v rs) h = says_then MadeBy (check m access.Write p) _ (λ i. (refl, refl))
  commit-made (cross n) h = h

pub step-made : StepMade
unfolding execute
step-made m words d e =
    said (MadeBy m words) _ d
    (says-bind (CrossesTo (Made m words crossing)) (MadeBy m words) (decide m (fetch m words) (read_word m words)) (commit m words)
    (decide-crosses m (Made m words crossing) (fetch m words) (read_word m words) (enter-made m words) (leave-made m words)) (commit-made m words)) e

-- a call through a gate keeps the layout, has one frame more in use, and executes the gate's domain at the gate
pub record Calling (m : Machine) (gate : Pointer) (n : Machine) : Type 0 where
  pub layout : n.layout ≡ m.layout
  pub registers : n.registers ≡ at_place m.registers gate (of_segment m.layout.gatedomains gate.segment)
  pub depth : n.depth ≡ m.depth + 1

pub call_facts : (m n : Machine) (words : List ℕ) (gate : Pointer) → enter_of m (read_word m words) gate ≡ ok n → Calling m gate n
unfolding enter_of entered
call_facts m n words gate e =
    said (Calling m gate) _ n (says_then (Calling m gate) (frame_for m (read_word m words)) (λ f. ok (entered m gate f)) (λ f. record { layout = refl; registers = refl; depth = refl })) e

-- a return has one less, and executes the domain of the frame at the place
pub record Returning (m : Machine) (back : Pointer) (n : Machine) : Type 0 where
  pub registers : n.registers ≡ at_place m.registers back (live m).domain
  pub depth : n.depth + 1 ≡ m.depth

some-frame : (m : Machine) (p : Pointer) → leave_number m p ≡ 0 → 1 ≤ m.depth
some-frame m p z = by (leb m.depth 8) (leave-facts m.layout.lengths m.layout.rights (in_use m.depth) (live m) (get_or m.pointers 1 no_pointer) p z).0
  where
    by : (t : Bool) → 1 ≤ (if t then m.depth else 0) → 1 ≤ m.depth
    by true h = h
    by false h = absurd (omega (arith, h))

pub return-facts : (m n : Machine) (q back : Pointer) → leave_of m q back ≡ ok n → Returning m back n
unfolding leave_of left
return-facts m n q back e =
    said (Returning m back) _ n
    (says-accept (Returning m back) (leave_number m back) (left m q back (live m)) (λ z. record { registers = refl; depth = omega (arith, some-frame m back z) })) e
