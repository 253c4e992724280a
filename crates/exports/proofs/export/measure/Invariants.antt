-- `exports::export::measure` meets its contract: line after line.
use lib.ListN.{length}
use Rattle.exports.proofs.TextLaws.{AtCell}
use Rattle.exports.proofs.export.measure.Given as goal

abbrev pub invariant-loop-rate : goal.invariant-loop-rate
invariant-loop-rate l = (goal.iterator-loop-rate).can_next l.rate-iterator × ((goal.iterator-loop-rate).is_finite l.rate-iterator × AtCell l.scans l.settings l.rates l.distortions l.total l.p (length l.yielded))
