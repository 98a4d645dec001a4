-- `text::numbers::put_digits` ends: the number that it passes to itself is less.
use Rattle.text.proofs.numbers.+put_digits.Given as goal

abbrev pub decreases-put_digits : goal.decreases-put_digits
decreases-put_digits l = l.n
