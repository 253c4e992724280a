-- `least::row::sums` meets its contract: a candidate is a price and what lies ahead, and neither is over no_way.
use Rattle.std.proofs.Common.{get_or, arith}
use Rattle.least.proofs.PriceLaws.{price_small}
use Rattle.least.proofs.row.sums.Goals as goal

pub overflow_add-row : goal.overflow_add-row
overflow_add-row c =
    let q = c.loop-q.q in
    let r = c.requires.ready q (omega arith) in
    omega (arith, price_small c.args.rule (get_or c.args.rates.now q 0) (get_or c.args.distortions.now q 0) c.args.rule.light r.0 r.1, r.2)
