-- `least::row::sums` meets its contract: every candidate that was passed is stored.
use Rattle.std.proofs.Common.{◌≡◌, ℕ, ◌<◌, get_or}
use Rattle.least.specs.Row.{candidate}
use Rattle.least.proofs.row.sums.Given as goal

abbrev pub invariant-loop-q : goal.invariant-loop-q
invariant-loop-q l = (r : ℕ) → r < l.q → get_or l.row r 0 ≡ candidate l.rule l.rates l.distortions l.keys r
