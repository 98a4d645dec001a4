-- `host::images::zenkorv_write` meets its contract.
use native.Mathlib.Omega.{arith}
use mathlib.Core.Path.{sym, ap, ◌∙◌}
use Rattle.held_runs.specs.Opened.{code_of}
use Rattle.held_images.proofs.WriteLaws.{held-short}
use Rattle.host.proofs.images.zenkorv_write.Goals as goal

pub code-requires : goal.code-requires
code-requires c = λ n e. let a = c.args in omega (arith, held-short a.bytes.now a.words.now a.output.now n (sym e ∙ c.write_held.ensures.value))

pub returns : goal.returns
returns c = record { code = c.code.ensures ∙ ap code_of c.write_held.ensures.value; output = c.write_held.ensures.output }
