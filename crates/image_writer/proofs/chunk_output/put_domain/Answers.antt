-- `image_writer::chunk_output::put_domain` meets its contract.
use Prim.Native.Nat.{ℕ, suc, ◌+◌, ◌-◌}
use native.Mathlib.Omega.{arith}
use mathlib.Core.Path.{◌≡◌, refl, ap, ◌∙◌}
use mathlib.Core.List.{◌∷◌, ◌++◌}
use borrow.Rule.Slice.PartMut.{put_mid}
use lib.ListN.{length, set}
use Rattle.image_format.specs.Bytes.{pair_bytes}
use Rattle.image_format.specs.Chunk.{chunk_bytes}
use Rattle.image_format.specs.Domain.{domain_bytes}
use Rattle.image_format.specs.Output.{written}
use Rattle.image_format.proofs.Written.{then-byte, then-bytes, written-part}
use Rattle.image_writer.proofs.chunk_output.put_domain.Goals as goal
use Rattle.image_writer.proofs.chunk_output.put_domain.Goals.{After-copy_from_slice}

-- the bytes that are written
all : (c : After-copy_from_slice) → put_mid (c.args.at + 5) (c.args.at + 5 + length c.args.rights.now - (c.args.at + 5)) (set c.put_header.new.output (c.args.at + 4) c.args.stack) c.copy_from_slice.new.self ≡ written c.args.output.now c.args.at (domain_bytes (record { stack = c.args.stack; rights = c.args.rights.now }))
unfolding domain_bytes chunk_bytes pair_bytes
all c =
    let a = c.args in
    let rs = a.rights.now in
    let k : 1 + length rs ≡ suc (length rs) = omega arith in
    let e4 = then-byte _ _ _ _ c.put_header.ensures a.stack (a.at + 4) (omega (arith, c.requires.0)) refl in
    let e5 = written-part _ rs c.copy_from_slice.new.self (a.at + 5) _ c.copy_from_slice.ensures.after (omega arith) in
    then-bytes _ _ _ _ e4 rs (a.at + 5) e5 (omega (arith, c.requires.0)) refl ∙
    ap (λ (n : ℕ). written a.output.now a.at (pair_bytes n ++ (pair_bytes 3 ++ (a.stack ∷ rs)))) k

pub returns : goal.returns
returns c = all (goal.at.returns c).After-copy_from_slice
