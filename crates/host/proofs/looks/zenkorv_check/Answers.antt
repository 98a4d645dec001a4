-- `host::looks::zenkorv_check` meets its contract.
use native.Mathlib.Omega.{arith}
use mathlib.Core.Path.{sym, ap, ◌∙◌}
use Rattle.held_runs.specs.Opened.{code_of}
use Rattle.host.proofs.LookLaws.{checked-lt}
use Rattle.host.proofs.looks.zenkorv_check.Goals as goal

pub code-requires : goal.code-requires
code-requires c = λ n e. let a = c.args in omega (arith, checked-lt a.bytes.now a.write a.tag a.segment a.word n (sym c.check.ensures ∙ e))

pub returns : goal.returns
returns c = c.code.ensures ∙ ap code_of c.check.ensures
