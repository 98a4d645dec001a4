-- `host::numbers::code` meets its contract.
use mathlib.Core.Path.{ap}
use Rattle.words.specs.Refusal.{answer_of}
use Rattle.host.proofs.numbers.code.Goals as goal

pub overflow_cast-result : goal.overflow_cast-result
overflow_cast-result c = record { fits = c.requires _ (ap answer_of c.in-Ok.is) }
