-- After a run from the fresh machine of an accepted image, the fetch that follows a call through a gate.
use Prim.Native.Nat.{◌+◌}
use mathlib.Core.Bool.{false}
use mathlib.Core.Path.{◌≡◌, refl, ap, ◌∙◌}
use lib.ListN.{get_or, length}
use Rattle.words.specs.Answer.{ok}
use Rattle.state.specs.declared.record.Layout.{Layout}
use Rattle.state.specs.Bases.{base_of}
use Rattle.fresh.specs.Fresh.{fresh_of}
use Rattle.image_format.specs.Image.{layout_of}
use Rattle.roundtrips.proofs.AcceptedSound.{accepted-sound}
use Rattle.processor.specs.Calls.{run_of}
use Rattle.executions.specs.Statements.{SoundRecord}
use Rattle.executions.proofs.Sound.{run_sound}
use Rattle.executions.proofs.Words.{run-layout}
use Rattle.executions.proofs.Gates.{call-fetches}
use Rattle.gate_theorems.specs.Statements.{FreshCallFetches}

eight : (l : Layout) → length (fresh_of l).frames ≡ 8
unfolding fresh_of
eight l = refl

pub fresh-call-fetches : FreshCallFetches
unfolding fresh_of
fresh-call-fetches bytes i e words limit n c =
    let fresh = fresh_of (layout_of i) in
    let r = run_of limit fresh words in
    let s : SoundRecord fresh = (accepted-sound bytes i e, eight (layout_of i)) in
    let f = call-fetches r.machine n r.words (run_sound fresh words s false limit 0) c in
    (f.0, f.1 ∙ ap (λ (l : Layout). ok (get_or r.words (base_of l.lengths c.gate.segment + c.gate.word) 0)) (run-layout false limit 0 fresh words))
