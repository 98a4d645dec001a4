-- `runs::resume::resume` meets its contract.
use Prim.Native.Nat.{ℕ}
use native.Mathlib.Omega.{arith}
use mathlib.Core.List.{List}
use mathlib.Core.Path.{◌≡◌, sym, subst, ap, ◌∙◌}
use Rattle.words.specs.declared.pointer.Pointer.{Pointer}
use Rattle.state.specs.declared.record.Frame.{Frame}
use Rattle.state.specs.declared.record.Register.{Register}
use Rattle.state.specs.declared.record.Registers.{Registers}
use Rattle.instructions.specs.Stages.{Stage, stage_of}
use Rattle.runs.specs.Private.{Countable, resume_after, resume_of}
use Rattle.runs.proofs.resume.resume.Goals as goal

-- how a run resumes at an event that is known to be another
told : (lengths rights bases gatedomains stacks words : List ℕ) (recent : List Register) (depth : ℕ) (frame : Frame) (r : Registers) (pointers : List Pointer) (n : ℕ) {e x : Stage} → e ≡ x
    → resume_of lengths rights bases gatedomains stacks words recent depth frame r pointers n x ≡ resume_of lengths rights bases gatedomains stacks words recent depth frame r pointers n e
told lengths rights bases gatedomains stacks words recent depth frame r pointers n h = ap (resume_of lengths rights bases gatedomains stacks words recent depth frame r pointers n) (sym h)

-- what may be counted at an event that is known to be another
counts : (n : ℕ) {e x : Stage} → e ≡ x → Countable n e → Countable n x
counts n h c = subst (Countable n) h c

pub resume_crossed-requires : goal.resume_crossed-requires
resume_crossed-requires c = counts _ (ap stage_of c.in-Entering.is) c.requires.countable

pub resume_crossed-requires-in-Leaving : goal.resume_crossed-requires-in-Leaving
resume_crossed-requires-in-Leaving c = counts _ (ap stage_of c.in-Leaving.is) c.requires.countable

pub overflow_add-result : goal.overflow_add-result
overflow_add-result c = omega (arith, counts c.args.n (ap stage_of c.in-Halted.is) c.requires.countable)

pub returns-in-Entering : goal.returns-in-Entering
returns-in-Entering c =
    c.resume_crossed.ensures ∙ ap (resume_after _ _ _ _ _) c.enter-crossing.ensures ∙ told _ _ _ _ _ _ _ _ _ _ _ _ (ap stage_of c.in-Entering.is)

pub returns-in-Leaving : goal.returns-in-Leaving
returns-in-Leaving c =
    rw c.saturating_sub-less.ensures at c.resume_crossed-in-Leaving.ensures ∙ ap (resume_after _ _ _ _ _) c.leave-crossing.ensures ∙ told _ _ _ _ _ _ _ _ _ _ _ _ (ap stage_of c.in-Leaving.is)

pub returns-in-Moved : goal.returns-in-Moved
returns-in-Moved c = told _ _ _ _ _ _ _ _ _ _ _ _ (ap stage_of c.in-Moved.is)

pub returns-in-Pointed : goal.returns-in-Pointed
returns-in-Pointed c = told _ _ _ _ _ _ _ _ _ _ _ _ (ap stage_of c.in-Pointed.is)

pub returns-in-Halted : goal.returns-in-Halted
returns-in-Halted c = told _ _ _ _ _ _ _ _ _ _ _ _ (ap stage_of c.in-Halted.is)

pub returns-in-Faulted : goal.returns-in-Faulted
returns-in-Faulted c = told _ _ _ _ _ _ _ _ _ _ _ _ (ap stage_of c.in-Faulted.is)
