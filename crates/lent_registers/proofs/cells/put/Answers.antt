use Rattle.std.proofs.Common.{rules, ◌<◌}
use Rattle.lent_registers.specs.Private.{put_at}
use Rattle.lent_registers.proofs.Bytes.{byte-bit, high-byte}
use Rattle.lent_registers.proofs.cells.put.Goals as goal

pub returns : goal.returns
unfolding put_at
returns c =
    let w : c.args.r.capability.word < 65536 = search rules in
    simp (c.from.ensures, c.from-2.ensures, byte-bit, c.to_le_bytes-word.ensures, c.to_le_bytes-length.ensures, high-byte c.args.r.capability.word w, high-byte c.args.r.capability.length (search rules))
