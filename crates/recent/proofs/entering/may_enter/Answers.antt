-- `recent::entering::may_enter` meets its contract.
use Rattle.std.proofs.Common.{◌∙◌, sym, refl, arith}
use Rattle.std.proofs.lemmas.Iterator.{YieldsList-from_slice, YieldsList-from_take}
use Rattle.std.proofs.lemmas.Iterator.Consumers.{YieldsList-at, YieldsList-turn, YieldsList-end}
use Rattle.std.proofs.lemmas.List.{length_push}
use Rattle.state.specs.Record.{no_capability}
use Rattle.recent.specs.Entering.{may_enter}
use Rattle.recent.proofs.Logic.{pass, stop, in_then, in-else, answered-true, answered-false}
use Rattle.recent.proofs.Same.{derived-same}
use Rattle.recent.proofs.Walk.{next_item, ended}
use Rattle.recent.proofs.entering.may_enter.Goals as goal

pub loop-x-init : goal.loop-x-init
loop-x-init c = (tt, tt, record { rest = refl })

pub returns-then-eq : goal.returns-then-eq
unfolding may_enter
returns-then-eq c =
    let rows = YieldsList-at c.into_iter-x-iterator.ensures.into_iter_gives (YieldsList-from_take c.args.count (YieldsList-at c.take-x-items.ensures.source (YieldsList-from_slice c.args.capabilities (cc))) (cc)) in
    let t = YieldsList-turn rows c.loop-x.yielded _ c.loop-x.yielded_by _ _ c.in-Some.field-0 c.in-Some.is c.next.ensures.steps in
    in_then _ (sym (derived-same c.in-Some.field-0.now c.args.c) ∙ sym c.eq.ensures ∙ c.if-eq.true) refl ∙ sym (next_item c.loop-x.invariant.2 c.in-Some.field-0.now t)

pub returns-then-not-is_yielding : goal.returns-then-not-is_yielding
unfolding may_enter
returns-then-not-is_yielding c =
    let rows = YieldsList-at c.into_iter-x-iterator.ensures.into_iter_gives (YieldsList-from_take c.args.count (YieldsList-at c.take-x-items.ensures.source (YieldsList-from_slice c.args.capabilities (cc))) (cc)) in
    let t = YieldsList-turn rows c.loop-x.yielded _ c.loop-x.yielded_by _ _ c.in-Some.field-0 c.in-Some.is c.next.ensures.steps in
    in-else _ (sym (derived-same c.in-Some.field-0.now c.args.c) ∙ sym c.eq.ensures ∙ c.if-eq.false) (stop _ (answered-false c.is_yielding.ensures c.if-not-is_yielding.true)) ∙
    sym (next_item c.loop-x.invariant.2 c.in-Some.field-0.now t)

pub loop-x-preserved : goal.loop-x-preserved
unfolding may_enter
loop-x-preserved c =
    let rows = YieldsList-at c.into_iter-x-iterator.ensures.into_iter_gives (YieldsList-from_take c.args.count (YieldsList-at c.take-x-items.ensures.source (YieldsList-from_slice c.args.capabilities (cc))) (cc)) in
    let t = YieldsList-turn rows c.loop-x.yielded _ c.loop-x.yielded_by _ _ c.in-Some.field-0 c.in-Some.is c.next.ensures.steps in
    let e = next_item c.loop-x.invariant.2 c.in-Some.field-0.now t ∙
    sym (in-else _ (sym (derived-same c.in-Some.field-0.now c.args.c) ∙ sym c.eq.ensures ∙ c.if-eq.false) (pass (answered-true c.is_yielding.ensures c.if-not-is_yielding.false) refl)) in
    (tt, tt, rw (length_push c.loop-x.yielded c.in-Some.field-0) (record { rest = e }))

pub returns : goal.returns
unfolding may_enter
returns c =
    let rows = YieldsList-at c.into_iter-x-iterator.ensures.into_iter_gives (YieldsList-from_take c.args.count (YieldsList-at c.take-x-items.ensures.source (YieldsList-from_slice c.args.capabilities (cc))) (cc)) in
    let t = YieldsList-end rows c.loop-x.yielded _ c.loop-x.yielded_by _ _ c.in-None.is c.next.ensures.steps in
    sym (ended no_capability c.loop-x.invariant.2 (omega (arith, t.1)))
