-- `image_writer::chunk_output::put_segment` meets its contract.
use Prim.Native.Nat.{ℕ, suc, ◌+◌, ◌*◌}
use native.Mathlib.Omega.{arith}
use mathlib.Core.Path.{◌≡◌, refl, ap, ◌∙◌}
use mathlib.Core.List.{◌∷◌, ◌++◌}
use lib.ListN.{length}
use Rattle.image_format.specs.Bytes.{pair_bytes, words_bytes}
use Rattle.image_format.specs.Chunk.{chunk_bytes}
use Rattle.image_format.specs.Segment.{Segment, segment_bytes}
use Rattle.image_format.specs.Output.{written}
use Rattle.image_format.proofs.Written.{then-byte, then-bytes, words_size}
use Rattle.image_writer.proofs.chunk_output.put_segment.Goals as goal
use Rattle.image_writer.proofs.chunk_output.put_segment.Goals.{After-put_words, Start}

-- the segment that is written
abbrev segment_put : Start → Segment
segment_put s = record { gates = s.args.gates; domain = s.args.domain; words = s.args.words.now }

-- the bytes that are written
all : (c : After-put_words) → c.put_words.new.output ≡ written c.args.output.now c.args.at (segment_bytes (segment_put (goal.at.After-put_words c).Start))
unfolding segment_bytes chunk_bytes pair_bytes
all c =
    let a = c.args in
    let r = c.requires.0 in
    let ws = a.words.now in
    let size : length (words_bytes ws) ≡ 4 * length ws = words_size ws in
    let k : 4 + 4 * length ws ≡ suc (suc (suc (suc (length (words_bytes ws))))) = omega arith in
    let e4 = then-bytes _ _ _ _ c.put_header.ensures (pair_bytes a.gates) (a.at + 4) c.put_pair.ensures (omega arith) refl in
    let e6 = then-byte _ _ _ _ e4 a.domain (a.at + 6) (omega arith) refl in
    let e7 = then-byte _ _ _ _ e6 0 (a.at + 7) (omega arith) refl in
    then-bytes _ _ _ _ e7 (words_bytes ws) (a.at + 8) c.put_words.ensures (omega arith) refl ∙
    ap (λ (n : ℕ). written a.output.now a.at (pair_bytes n ++ (pair_bytes 2 ++ (pair_bytes a.gates ++ (a.domain ∷ 0 ∷ words_bytes ws))))) k

pub returns : goal.returns
returns c = all (goal.at.returns c).After-put_words
