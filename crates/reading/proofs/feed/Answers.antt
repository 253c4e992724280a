-- `reading::feed` meets its contract: byte after byte of the piece.
use native.Mathlib.Omega.{arith}
use lib.Seq.{take_all}
use Rattle.reading.proofs.FeedLaws.{feeds_more}
use Rattle.reading.proofs.feed.Goals as goal

pub loop-c-preserved : goal.loop-c-preserved
loop-c-preserved c = feeds_more c.args.piece.now c.loop-c.c-index (omega arith) c.loop-c.invariant c.next-held.ensures.feeds

pub returns-clause-feeds : goal.returns-clause-feeds
returns-clause-feeds c = rw (take_all c.loop-c.c-index c.args.piece.now c.loop-c-test.false) at c.loop-c.invariant
