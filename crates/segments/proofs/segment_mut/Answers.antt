-- `segments::segment_mut` meets its contract.
use Rattle.segments.proofs.Parts.{part}
use Rattle.segments.proofs.segment_mut.Goals as goal

pub returns : goal.returns
returns c = let a = c.args in
    let p = part a.m a.words.now a.number _ _ c.span-s.ensures.from_value a.words.ref_ptr in
    record { result_value = p.0; ref_ptr_value = p.1 }
