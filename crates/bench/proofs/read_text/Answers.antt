-- `bench::read_text` meets its contract: what is known of the text so far.
use Rattle.std.proofs.Common.{[], ◌++◌}
use Rattle.bench.proofs.read_text.Goals as goal

pub loop-init : goal.loop-init
loop-init g c = ([], c.fresh-s.ensures _)

pub loop-preserved : goal.loop-preserved
loop-preserved g c =
    let read = c.loop.invariant in
    (read.0 ++ _, c.feed-s.ensures.feeds read.0 read.1)
