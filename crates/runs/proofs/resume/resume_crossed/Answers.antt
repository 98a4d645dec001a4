-- `runs::resume::resume_crossed` meets its contract.
use Rattle.runs.proofs.resume.resume_crossed.Goals as goal

pub returns-in-Err : goal.returns-in-Err
returns-in-Err c = simp c.in-Err.is

pub returns-in-Ok : goal.returns-in-Ok
returns-in-Ok c = simp c.in-Ok.is
