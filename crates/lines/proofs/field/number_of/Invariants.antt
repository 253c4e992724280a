-- `lines::field::number_of` meets its contract: v is the number of the digits so far.
use lib.ListN.{take}
use Rattle.lines.proofs.ContentLaws.{Writes}
use Rattle.lines.proofs.field.number_of.Given as goal

abbrev pub invariant-loop-c : goal.invariant-loop-c
invariant-loop-c l = Writes (take l.c-index l.content) l.v
