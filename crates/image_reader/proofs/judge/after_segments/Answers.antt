-- `image_reader::judge::after_segments` meets its contract.
use Rattle.image_reader.specs.Private.{after_segments}
use Rattle.words.proofs.Results.{handed_on}
use Rattle.image_reader.proofs.judge.after_segments.Goals as goal

pub returns-in_err-d : goal.returns-in_err-d
unfolding after_segments
returns-in_err-d c = simp (← c.domain_chunks.ensures, c.in_err-d.was, handed_on c.from_residual.result _ c.from_residual.ensures.1)

pub returns-in_err-end : goal.returns-in_err-end
unfolding after_segments
returns-in_err-end c =
    simp (← c.domain_chunks.ensures, c.in_ok-d.was, ← c.gates_sound-pass.ensures, ← c.end.ensures, c.in_err-end.was, handed_on c.from_residual-in_err-end.result _ c.from_residual-in_err-end.ensures.1)

pub returns : goal.returns
unfolding after_segments
returns c =
    simp (← c.domain_chunks.ensures, c.in_ok-d.was, ← c.gates_sound-pass.ensures, ← c.end.ensures, c.in_ok-end.was)
