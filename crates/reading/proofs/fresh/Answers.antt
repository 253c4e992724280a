-- `reading::fresh` meets its contract: no text, no number, no word.
use Rattle.reading.proofs.FeedLaws.{starts}
use Rattle.reading.proofs.fresh.Goals as goal

pub returns : goal.returns
returns c = starts
