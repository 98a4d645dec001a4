-- `words::arithmetic::difference` meets its contract.
use Rattle.std.proofs.Common.{arith}
use Rattle.words.specs.Arithmetic.{difference_of}
use Rattle.words.proofs.arithmetic.difference.Goals as goal

pub returns : goal.returns
unfolding difference_of
returns c = omega (arith, c.wrapping_sub_u32.ensures, c.wrapping_sub_u32.type_inv)
