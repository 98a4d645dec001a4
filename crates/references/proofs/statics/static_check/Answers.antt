-- `references::statics::static_check` meets its contract.
use mathlib.Core.Path.{sym, ◌∙◌}
use borrow.Author.Tests.{lt-ltb, le-ltb}
use Rattle.references.specs.Static.{static_of, exists, rights_of}
use Rattle.references.proofs.Rights.{no-rights}
use Rattle.references.proofs.statics.static_check.Goals as goal

pub returns-then-segment-ge16 : goal.returns-then-segment-ge16
unfolding static_of exists rights_of
returns-then-segment-ge16 c = simp (le-ltb _ _ c.if-segment-ge16.true)

pub returns-then-layout-i : goal.returns-then-layout-i
unfolding static_of exists rights_of
returns-then-layout-i c = simp (lt-ltb _ _ c.if-segment-ge16.false, le-ltb _ _ c.if-layout-i.true)

pub returns-then-domain-ge8 : goal.returns-then-domain-ge8
unfolding static_of exists rights_of
returns-then-domain-ge8 c = simp (lt-ltb _ _ c.if-segment-ge16.false, lt-ltb _ _ c.if-layout-i.false, le-ltb _ _ c.if-domain-ge8.true, no-rights)

pub returns-then-allows : goal.returns-then-allows
unfolding static_of exists rights_of
returns-then-allows c =
    let e = c in
    simp (lt-ltb _ _ e.if-segment-ge16.false, lt-ltb _ _ e.if-layout-i.false, lt-ltb _ _ e.if-domain-ge8.false, sym c.allows.ensures ∙ c.if-allows.true)

pub returns-else-allows : goal.returns-else-allows
unfolding static_of exists rights_of
returns-else-allows c =
    let e = c in
    simp (lt-ltb _ _ e.if-segment-ge16.false, lt-ltb _ _ e.if-layout-i.false, lt-ltb _ _ e.if-domain-ge8.false, sym c.allows.ensures ∙ c.if-allows.false)
