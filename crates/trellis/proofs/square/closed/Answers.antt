-- `trellis::square::closed` meets its contract.
use Rattle.std.proofs.Common.{rules}
use Rattle.trellis.specs.Square.{closed_rate}
use Rattle.trellis.proofs.square.closed.Goals as goal

pub returns : goal.returns
unfolding closed_rate
returns c = search rules
