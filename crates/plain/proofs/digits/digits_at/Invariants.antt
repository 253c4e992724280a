-- `plain::digits::digits_at` meets its contract: v is the number of the digits before i.
use lib.Seq.{slice}
use Rattle.lines.proofs.ContentLaws.{Writes}
use Rattle.plain.proofs.digits.digits_at.Given as goal

abbrev pub invariant-loop-i : goal.invariant-loop-i
invariant-loop-i l = Writes (slice l.from l.i l.text) l.v
