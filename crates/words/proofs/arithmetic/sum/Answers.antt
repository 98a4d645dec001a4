-- `words::arithmetic::sum` meets its contract.
use Rattle.words.specs.Arithmetic.{sum_of}
use Rattle.words.proofs.arithmetic.sum.Goals as goal

pub returns : goal.returns
unfolding sum_of
returns c = c.wrapping_add_u32.ensures.value
