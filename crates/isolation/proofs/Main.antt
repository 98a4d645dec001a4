-- The isolation theorem, over the whole stretch, at the processor's own definition; then at the calls of stretch and of step.
use Prim.Native.Nat.{ℕ}
use mathlib.Core.List.{List}
use mathlib.Core.Path.{◌≡◌, refl}
use lib.ListN.{length}
use Rattle.state.specs.declared.record.Machine.{Machine}
use Rattle.soundness.proofs.Facts.{sound-facts}
use Rattle.runs.specs.Run.{judged, called_of}
use Rattle.runs.proofs.Judging.{judged-sound, judged-long}
use Rattle.processor.specs.Calls.{stretch_of, stretch_call}
use Rattle.executions.specs.Called.{steps_called}
use Rattle.executions.proofs.Called.{steps-stretch}
use Rattle.executions.proofs.Fit.{sound-fit}
use Rattle.isolation.specs.Stores.{stores_of}
use Rattle.isolation.specs.Isolation.{Agree, Isolated}
use Rattle.isolation.proofs.Theorem.{isolation-fits}
use Rattle.isolation.specs.Statements.{Isolation, CallIsolation, StepsIsolation}

pub isolation : Isolation
isolation m sound limit w v hw hv agree = isolation-fits m (sound-fit m sound) limit w v (sound-facts m sound).layout.words hw hv agree

-- a call that is not refused is the stretch, and so are calls of step
called : (limit : ℕ) (m : Machine) (words : List ℕ) → judged m words ≡ 0 → stretch_call limit m words ≡ stretch_of limit m words
unfolding stretch_call called_of
called limit m words e = rw e refl

steps : (limit : ℕ) (m : Machine) (words : List ℕ) → length m.frames ≡ 8 → judged m words ≡ 0 → steps_called limit 0 m words ≡ stretch_of limit m words
steps limit m words room e = steps-stretch limit 0 m words (judged-sound m words e, room) (judged-long m words e)

-- the theorem, where neither memory is refused
accepted : (m : Machine) (limit : ℕ) (w v : List ℕ) → judged m w ≡ 0 → judged m v ≡ 0
    → Agree m w v → Isolated m w v (stretch_of limit m w) (stretch_of limit m v) (stores_of limit m w) (stores_of limit m v)
accepted m limit w v hw hv = isolation m (judged-sound m w hw) limit w v (judged-long m w hw) (judged-long m v hv)

pub call-isolation : CallIsolation
call-isolation m limit w v hw hv agree = rw (called limit m w hw, called limit m v hv) (accepted m limit w v hw hv agree)

pub steps-isolation : StepsIsolation
steps-isolation m limit w v room hw hv agree = rw (steps limit m w room hw, steps limit m v room hv) (accepted m limit w v hw hv agree)
