-- `image_writer::chunk_output::put_head` meets its contract.
use native.Mathlib.Omega.{arith}
use mathlib.Core.Path.{◌≡◌, refl, ◌∙◌}
use Rattle.image_format.specs.Bytes.{pair_bytes, word_bytes}
use Rattle.image_format.specs.Chunk.{chunk_bytes}
use Rattle.image_format.specs.Head.{head_bytes}
use Rattle.image_format.specs.Output.{written}
use Rattle.image_format.proofs.Written.{then-byte, then-bytes}
use Rattle.image_writer.proofs.chunk_output.put_head.Goals as goal
use Rattle.image_writer.proofs.chunk_output.put_head.Goals.{After-put_word}

-- the bytes that are written
all : (c : After-put_word) → c.put_word.new.output ≡ written c.args.output.now 0 (head_bytes c.args.h)
unfolding head_bytes chunk_bytes word_bytes pair_bytes
all c =
    let g = c.args.h in
    let r = c.requires in
    let e4 = then-byte _ _ _ _ c.put_header.ensures g.segments 4 (omega arith) refl in
    let e5 = then-byte _ _ _ _ e4 g.domains 5 (omega arith) refl in
    let e6 = then-byte _ _ _ _ e5 g.start.domain 6 (omega arith) refl in
    let e7 = then-byte _ _ _ _ e6 0 7 (omega arith) refl in
    then-bytes _ _ _ _ e7 (word_bytes c.pack.result) 8 c.put_word.ensures (omega arith) refl ∙ simp c.pack.ensures

pub returns : goal.returns
returns c = all (goal.at.returns c).After-put_word
