-- `text::numbers::width` ends: the number that it passes to itself is less.
use Rattle.text.proofs.numbers.+width.Given as goal

abbrev pub decreases-width : goal.decreases-width
decreases-width l = l.n
