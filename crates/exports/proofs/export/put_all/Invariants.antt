-- `exports::export::put_all` meets its contract: line after line.
use mathlib.Core.Path.{◌≡◌}
use lib.ListN.{length, take}
use lib.Seq.{sets}
use Rattle.exports.specs.Export.{export_text}
use Rattle.exports.proofs.TextLaws.{AtCell}
use Rattle.exports.proofs.export.put_all.Given as goal

abbrev pub invariant-loop-rate : goal.invariant-loop-rate
invariant-loop-rate l =
    (goal.iterator-loop-rate).can_next l.rate-iterator × ((goal.iterator-loop-rate).is_finite l.rate-iterator × (AtCell l.scans l.settings l.rates l.distortions l.at l.p (length l.yielded)
    × (l.text ≡ sets l.initial.text 0 (take l.at (export_text l.scans l.settings l.rates l.distortions)))))
