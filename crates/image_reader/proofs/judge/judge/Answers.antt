-- `image_reader::judge::judge` meets its contract.
use Prim.Native.Nat.{◌≤◌}
use mathlib.Core.Path.{sym, ◌∙◌}
use Rattle.image_format.proofs.Images.{head-ranges}
use Rattle.words.proofs.Results.{handed_on}
use Rattle.image_reader.proofs.Judged.{judged-is}
use Rattle.image_reader.proofs.judge.judge.Goals as goal
use Rattle.image_reader.proofs.judge.judge.Goals.{In_ok-h}

-- the counts of a head that is passed
ranges : (c : In_ok-h) → let h = c.in_ok-h.h in (h.segments ≤ 16) × (h.domains ≤ 8)
ranges c =
    head-ranges c.args.image.now (sym (simp c.in_ok-h.was at c.head_chunk.ensures))

pub segment_chunks-requires : goal.segment_chunks-requires
segment_chunks-requires c = (ranges c).0

pub after_segments-requires : goal.after_segments-requires
after_segments-requires c = ranges (goal.at.after_segments-requires c).In_ok-h

pub returns-in_err-h : goal.returns-in_err-h
returns-in_err-h c =
    sym (judged-is c.args.image.now ∙ simp (← c.head_chunk.ensures, c.in_err-h.was, handed_on c.from_residual.result _ c.from_residual.ensures.1))

pub returns-in_err-s : goal.returns-in_err-s
returns-in_err-s c =
    sym (judged-is c.args.image.now ∙ simp (← c.head_chunk.ensures, c.in_ok-h.was, ← c.segment_chunks.ensures, c.in_err-s.was, handed_on c.from_residual-in_err-s.result _ c.from_residual-in_err-s.ensures.1))

pub returns : goal.returns
returns c =
    c.after_segments.ensures ∙ sym (judged-is c.args.image.now ∙ simp (← c.head_chunk.ensures, c.in_ok-h.was, ← c.segment_chunks.ensures, c.in_ok-s.was))
