-- `held_images::read_held` meets its contract.
use mathlib.Core.Path.{ap, ◌∙◌}
use Rattle.words.specs.Refusal.{status}
use Rattle.words.proofs.Results.{handed_on}
use Rattle.held_images.proofs.ReadLaws.{without-room, read-refused, read-accepted}
use Rattle.held_images.proofs.read_held.Goals as goal

pub returns-then-bytes-lt1079 : goal.returns-then-bytes-lt1079
returns-then-bytes-lt1079 c =
    let a = c.args in
    let e = without-room a.image.now a.bytes.now a.words.now c.if-bytes-lt1079.true in
    record { number = e.0; bytes = e.1.0; words = e.1.1 }

pub returns-in_err-read : goal.returns-in_err-read
returns-in_err-read c =
    let a = c.args in
    let e = read-refused a.image.now a.bytes.now a.words.now _ c.if-bytes-lt1079.false c.read.ensures.words_after _ c.in_err-read.ensures.value in
    record { number = ap status (handed_on c.from_residual.result _ c.from_residual.ensures.1) ∙ e.0; bytes = e.1.0; words = e.1.1 }

pub returns : goal.returns
returns c =
    let a = c.args in
    let e = read-accepted a.image.now a.bytes.now a.words.now _ c.if-bytes-lt1079.false c.read.ensures.words_after _ _ _ c.in_ok-read.ensures.value c.read.ensures.machine_after c.put_record.ensures in
    record { number = e.0; bytes = e.1.0; words = e.1.1 }
