-- `exports::digits::put_digits` calls itself on a tenth of `x`.
use Rattle.exports.proofs.digits.+put_digits.Given as goal

abbrev pub decreases-put_digits : goal.decreases-put_digits
decreases-put_digits l = l.x
