-- `entry::run_to_result` meets its contract.
use Rattle.entry.specs.ImageRun.{outcome_answer}
use Rattle.entry.proofs.Outcomes.{outcome-refused, outcome-passed}
use Rattle.entry.proofs.Entries.{entry-short, entry-refused, entry-passed}
use Rattle.entry.proofs.run_to_result.Goals as goal

pub returns-then-res-lt4 : goal.returns-then-res-lt4
returns-then-res-lt4 c =
    let a = c.args in
    let e = entry-short a.image.now a.limit a.res.now c.if-res-lt4.true in
    record { value = e.0; res_after = e.1 }

pub returns-in-Refused : goal.returns-in-Refused
returns-in-Refused c =
    let a = c.args in
    let e = entry-refused a.image.now a.limit a.res.now c.if-res-lt4.false _
    (outcome-refused a.limit a.image.now c.run_image-o.result c.run_image-o.ensures _ c.in-Refused.is) in
    record { value = e.0; res_after = e.1 }

pub returns-in_default : goal.returns-in_default
returns-in_default c =
    let a = c.args in
    let o = c.run_image-o.result in
    let e = entry-passed a.image.now a.limit a.res.now c.if-res-lt4.false (outcome_answer o) _
    (outcome-passed a.limit a.image.now o c.run_image-o.ensures c.in_default.not-Refused)
    (rw (c.ending_byte.ensures, c.fault_byte.ensures) at c.put_result.ensures) in
    record { value = e.0; res_after = e.1 }
