-- `entry::image_run::run_image` meets its contract.
use mathlib.Core.Path.{◌≡◌, ap, ◌∙◌}
use lib.ListN.{replicate}
use Rattle.image_reader.specs.Reader.{read_image, machine_after}
use Rattle.entry.specs.ImageRun.{final_of, empty_machine}
use Rattle.entry.proofs.ImageRuns.{refused-run, passed-run}
use Rattle.entry.proofs.image_run.run_image.Goals as goal
use Rattle.entry.proofs.image_run.run_image.Goals.{After-read}

-- the machine that the read left
read_is : (c : After-read) → c.read.new.m ≡ machine_after empty_machine (read_image c.args.image.now (replicate 8192 0))
read_is c = rw (c.fresh-machine.ensures, c.empty_layout.ensures) at c.read.ensures.machine_after

pub returns-in-Err : goal.returns-in-Err
returns-in-Err c = refused-run _ _ _ c.in-Err.refusal (read_is (goal.at.returns-in-Err c).After-read) c.in-Err.ensures.value

pub returns : goal.returns
returns c = ap final_of c.run.ensures ∙ passed-run _ _ _ _ (read_is (goal.at.returns c).After-read) c.read.ensures.words_after c.in_default.ensures.value
