-- `reading::closed` meets its contract: no word, and one with another byte in it.
use Rattle.reading.proofs.FeedLaws.{closes_between, closes_other}
use Rattle.reading.proofs.closed.Goals as goal

pub returns-in-Between-clause-closes : goal.returns-in-Between-clause-closes
returns-in-Between-clause-closes c = closes_between c.in-Between.is

pub returns-in-Other-clause-closes : goal.returns-in-Other-clause-closes
returns-in-Other-clause-closes c = rw c.refused.ensures (closes_other c.in-Other.is)
