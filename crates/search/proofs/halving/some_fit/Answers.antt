-- `search::halving::some_fit` meets its contract: the least-rate plan under the ceiling fits if anything does.
use Rattle.seek.proofs.SeekLaws.{room_framed}
use Rattle.search.proofs.HalvingLaws.{fits_by, none_fits}
use Rattle.search.proofs.halving.some_fit.Goals as goal

pub total_up-requires : goal.total_up-requires
total_up-requires c =
    let p = c.thrifty_pass.ensures in
    record {
      room = room_framed c.requires p.framed;
      fact = (p.some c.if-thrifty_pass.true).one.0;
    }

pub returns-then-thrifty_pass : goal.returns-then-thrifty_pass
returns-then-thrifty_pass c = fits_by (c.thrifty_pass.ensures.some c.if-thrifty_pass.true) c.total_up.ensures.rate c.thrifty_pass.ensures.framed

pub returns-else-thrifty_pass : goal.returns-else-thrifty_pass
returns-else-thrifty_pass c = rw c.if-thrifty_pass.false (none_fits (c.thrifty_pass.ensures.none c.if-thrifty_pass.false) c.thrifty_pass.ensures.framed)
