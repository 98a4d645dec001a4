-- `log_report::lines::put_kind` meets its contract.
use borrow.Author.Tests.{eq-eqb, ne_eqb}
use Rattle.log_report.proofs.lines.put_kind.Goals as goal

pub returns-then-kind-eq0 : goal.returns-then-kind-eq0
returns-then-kind-eq0 c =
    rw (eq-eqb _ 0 c.if-kind-eq0.true) (record { value = c.put_field.ensures.value; output_after = c.put_field.ensures.output_after })

pub returns : goal.returns
returns c =
    rw (ne_eqb _ 0 c.if-kind-eq0.false) (record { value = c.put_field-2.ensures.value; output_after = c.put_field-2.ensures.output_after })
