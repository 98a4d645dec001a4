-- `transfers::call_way` meets its contract.
use mathlib.Core.Path.{◌≡◌, sym, ap, ◌∙◌}
use mathlib.Core.Bool.{false}
use borrow.Author.Tests.{lt-ltb, le-ltb}
use lib.Dec.{ltb}
use Rattle.words.specs.Answer.{ok, ◌>>◌, require}
use Rattle.words.proofs.Results.{number-some, status-ok, status-err, handed_on}
use Rattle.state.specs.Record.{of_segment}
use Rattle.transfers.specs.Transfer.{call_way, call_answer}
use Rattle.transfers.proofs.Transfers.{way-tagged, way-inside, way-refused, way-gate}
use Rattle.transfers.proofs.call_way.Goals as goal
use Rattle.transfers.proofs.call_way.Goals.{In_ok-static_check}

pub returns-then-p : goal.returns-then-p
returns-then-p c = sym (way-tagged _ _ _ _ _ _ c.if-p.true)

pub returns-then-is_ok : goal.returns-then-is_ok
returns-then-is_ok c =
    sym (way-inside _ _ _ _ _ _ c.if-p.false (sym c.static_check.ensures ∙ status-ok _ c.if-is_ok.ensures.value))

pub returns-in_err-static_check : goal.returns-in_err-static_check
returns-in_err-static_check c =
    let a = c.args in
    let shut = way-refused a.layout.now.lengths a.layout.now.gates a.layout.now.rights a.domain a.depth a.p c.if-p.false
    (λ z. status-err _ c.if-is_ok.ensures.value (c.static_check.ensures ∙ z))
    (λ z. number-some _ (c.in_err-static_check.ensures ∙ z)) in
    ap call_answer (handed_on c.from_residual.result _ c.from_residual.ensures.1) ∙ simp (c.in_err-static_check.ensures) (sym shut)

-- with G the rest of the way is the gate and the free frame
gated : (c : In_ok-static_check) → let a = c.args in
    call_way a.layout.now.lengths a.layout.now.gates a.layout.now.rights a.domain a.depth a.p ≡ (require (ltb a.p.word (of_segment a.layout.now.gates a.p.segment)) 29 >> require (ltb a.depth 8) 31 >> ok false)
gated c =
    way-gate _ _ _ _ _ _ c.if-p.false (λ z. status-err _ c.if-is_ok.ensures.value (c.static_check.ensures ∙ z)) (sym c.in_ok-static_check.ensures)

pub returns-then-of_segment-p : goal.returns-then-of_segment-p
returns-then-of_segment-p c =
    sym (gated (goal.at.returns-then-of_segment-p c).In_ok-static_check ∙ simp (← c.of_segment.ensures, le-ltb _ _ c.if-of_segment-p.true))

pub returns-then-depth-ge8 : goal.returns-then-depth-ge8
returns-then-depth-ge8 c =
    sym (gated (goal.at.returns-then-depth-ge8 c).In_ok-static_check ∙ simp (← c.of_segment.ensures, lt-ltb _ _ c.if-of_segment-p.false, le-ltb _ _ c.if-depth-ge8.true))

pub returns : goal.returns
returns c =
    sym (gated (goal.at.returns c).In_ok-static_check ∙ simp (← c.of_segment.ensures, lt-ltb _ _ c.if-of_segment-p.false, lt-ltb _ _ c.if-depth-ge8.false))
