-- `isolation::by_static` meets its contract.
use Prim.Native.Nat.{ℕ}
use mathlib.Core.Path.{ap, ◌∙◌}
use lib.Dec.{eqb}
use Rattle.isolation.proofs.Passed.{passes}
use Rattle.isolation.proofs.by_static.Goals as goal

pub returns : goal.returns
returns c = c.is_ok.ensures.value ∙ passes c.static_check.result ∙ ap (λ (n : ℕ). eqb n 0) c.static_check.ensures
