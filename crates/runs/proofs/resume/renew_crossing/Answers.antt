-- `runs::resume::renew_crossing` meets its contract.
use Prim.Native.Nat.{ℕ}
use mathlib.Core.List.{List}
use mathlib.Core.Path.{◌≡◌, sym, ap, ◌∙◌}
use Rattle.words.specs.declared.pointer.Pointer.{Pointer}
use Rattle.state.specs.declared.record.Frame.{Frame}
use Rattle.state.specs.declared.record.Register.{Register}
use Rattle.instructions.specs.Stages.{Stage, stage_of}
use Rattle.crossings.specs.Crossing.{called_recent}
use Rattle.lent_registers.specs.Columns.{registers_of}
use Rattle.runs.specs.Private.{crossed_recent}
use Rattle.runs.proofs.resume.renew_crossing.Goals as goal

-- the registers at an event that is known to be another
told : (recent : List Register) (depth : ℕ) (frame : Frame) (pointers : List Pointer) (made : Frame) {e x : Stage} → e ≡ x
    → crossed_recent recent depth frame pointers made x ≡ crossed_recent recent depth frame pointers made e
told recent depth frame pointers made h = ap (crossed_recent recent depth frame pointers made) (sym h)

pub returns-in-Entering : goal.returns-in-Entering
returns-in-Entering c = let a = c.args in c.renew_call.ensures ∙ ap (λ (p : Pointer). called_recent (registers_of a.recent.now) a.view.now.depth a.view.now.frame p a.made) c.pointer_at.ensures ∙ told (registers_of a.recent.now) a.view.now.depth a.view.now.frame a.pointers a.made (ap stage_of c.in-Entering.is)

pub returns-in-Leaving : goal.returns-in-Leaving
returns-in-Leaving c = let a = c.args in c.renew_return.ensures ∙ told (registers_of a.recent.now) a.view.now.depth a.view.now.frame a.pointers a.made (ap stage_of c.in-Leaving.is)

pub returns-in-Moved : goal.returns-in-Moved
returns-in-Moved c = let a = c.args in told (registers_of a.recent.now) a.view.now.depth a.view.now.frame a.pointers a.made (ap stage_of c.in-Moved.is)

pub returns-in-Pointed : goal.returns-in-Pointed
returns-in-Pointed c = let a = c.args in told (registers_of a.recent.now) a.view.now.depth a.view.now.frame a.pointers a.made (ap stage_of c.in-Pointed.is)

pub returns-in-Halted : goal.returns-in-Halted
returns-in-Halted c = let a = c.args in told (registers_of a.recent.now) a.view.now.depth a.view.now.frame a.pointers a.made (ap stage_of c.in-Halted.is)

pub returns-in-Faulted : goal.returns-in-Faulted
returns-in-Faulted c = let a = c.args in told (registers_of a.recent.now) a.view.now.depth a.view.now.frame a.pointers a.made (ap stage_of c.in-Faulted.is)
