-- `isolation::by_live` meets its contract.
use Prim.Native.Nat.{ℕ}
use mathlib.Core.Path.{sym, ap, ◌∙◌}
use lib.Dec.{eqb}
use Rattle.words.specs.Refusal.{answer_of}
use Rattle.isolation.proofs.Passed.{passes, live-refused, live-source}
use Rattle.isolation.proofs.by_live.Goals as goal

pub returns-in-Err : goal.returns-in-Err
returns-in-Err c =
    let e = sym c.pass_on.ensures ∙ ap answer_of c.in-Err.is in
    sym (live-refused _ _ _ _ _ _ _ _ (rw (c.live_frame.ensures, c.in_use.ensures.0, c.is_read-read.ensures) at e))

pub returns-in-Ok : goal.returns-in-Ok
returns-in-Ok c =
    let e = sym c.pass_on.ensures ∙ ap answer_of c.in-Ok.is in
    c.is_ok.ensures.value ∙ passes c.static_check.result
    ∙ ap (λ (n : ℕ). eqb n 0) (rw c.asked.ensures at c.static_check.ensures)
    ∙ sym (live-source _ _ _ _ _ _ _ _ (rw (c.live_frame.ensures, c.in_use.ensures.0, c.is_read-read.ensures) at e))
