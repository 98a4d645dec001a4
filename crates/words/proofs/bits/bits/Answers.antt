-- `words::bits::bits` meets its contract.
use Rattle.std.proofs.Common.{refl, pow_pos}
use Rattle.words.proofs.Fields.{power, masked, field_lt}
use Rattle.words.proofs.bits.bits.Goals as goal

pub overflow_sub-result : goal.overflow_sub-result
overflow_sub-result c = rw (power c.args.width c.requires.1) (pow_pos c.args.width)

pub returns : goal.returns
returns c = rw (power c.args.width c.requires.1, masked c.args.low c.args.width c.args.word) (refl, field_lt _ _ _)
