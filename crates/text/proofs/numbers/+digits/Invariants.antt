-- `text::numbers::digits`: the measure is the number.
use Rattle.text.proofs.numbers.+digits.Given as goal

abbrev pub decreases-digits : goal.decreases-digits
decreases-digits l = l.n
