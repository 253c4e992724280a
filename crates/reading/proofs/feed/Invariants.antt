-- `reading::feed` meets its contract: byte after byte of the piece.
use lib.ListN.{take}
use Rattle.reading.specs.Fed.{Feeds}
use Rattle.reading.proofs.feed.Given as goal

abbrev pub invariant-loop-c : goal.invariant-loop-c
invariant-loop-c l = Feeds l.initial.numbers (take l.c-index l.piece) l.initial.held l.numbers l.held
