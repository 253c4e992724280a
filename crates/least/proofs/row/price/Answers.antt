-- `least::row::price` meets its contract.
use Rattle.least.specs.Row.{price_of}
use Rattle.least.proofs.row.price.Goals as goal
use Rattle.std.proofs.Common.{rules}

pub returns : goal.returns
unfolding price_of
returns c = search rules
