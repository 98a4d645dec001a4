-- `log_report::image_log::log_image` meets its contract.
use Prim.Native.Nat.{ℕ}
use native.Mathlib.Omega.{arith}
use mathlib.Core.Path.{◌≡◌, ap, ◌∙◌}
use lib.ListN.{replicate, length-replicate}
use Rattle.words.specs.Refusal.{answer_of}
use Rattle.words.proofs.Results.{handed_on}
use Rattle.image_reader.specs.Reader.{read_image, machine_after}
use Rattle.entry.specs.ImageRun.{empty_machine}
use Rattle.log_report.proofs.ImageLogs.{image-refused, image-logged}
use Rattle.log_report.proofs.image_log.log_image.Goals as goal
use Rattle.log_report.proofs.image_log.log_image.Goals.{After-read}

-- the machine that the read left
read_is : (c : After-read) → c.read.new.m ≡ machine_after empty_machine (read_image c.args.image.now (replicate 8192 0))
read_is c = rw (c.fresh-machine.ensures, c.empty_layout.ensures) at c.read.ensures.machine_after

pub returns-in_err-read : goal.returns-in_err-read
returns-in_err-read c =
    let p = image-refused c.args.image.now c.args.log.now c.in_err-read.field-0.0 c.in_err-read.ensures.value in
    record { value = ap answer_of (handed_on c.from_residual.result _ c.from_residual.ensures.1) ∙ p.0; log_after = p.1 }

pub returns : goal.returns
returns c =
    let p = image-logged c.args.image.now c.args.log.now c.read.new.m c.read.new.words c.run_logged-l.result _ _ (read_is (goal.at.returns c).After-read) c.read.ensures.words_after (omega (arith, c.read.auto.words, length-replicate {A = ℕ} 8192 0)) c.requires c.in_ok-read.ensures.value c.run_logged-l.ensures in
    record { value = p.0; log_after = p.1 }
