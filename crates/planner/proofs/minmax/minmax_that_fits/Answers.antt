-- `planner::minmax::minmax_that_fits` meets its contract: the least ceiling, and the least-rate plan under it.
use Rattle.tables.specs.Law.{law_of}
use Rattle.criteria.specs.Choice.{Problem}
use Rattle.checks.specs.Given.{planning_in}
use Rattle.checks.proofs.GivenLaws.{fit_in}
use mathlib.Core.Path.{refl}
use native.Mathlib.Omega.{arith}
use Rattle.seek.proofs.SeekLaws.{room_framed, framed_on}
use Rattle.planner.proofs.PromiseLaws.{values_are, finished_given}
use Rattle.planner.proofs.MinmaxLaws.{pass_under, peak_bound, thrifty_fits, minmax_is}
use Rattle.planner.proofs.minmax.minmax_that_fits.Goals as goal
use Rattle.planner.proofs.minmax.minmax_that_fits.Goals.{Start}

abbrev problem : Start → Problem
problem s = planning_in s.args.t.now

pub overflow_cast-thriftiest : goal.overflow_cast-thriftiest
overflow_cast-thriftiest c = omega (arith, peak_bound (law_of c.args.t.now.law) (fit_in c.args.t.now c.requires.room.0) c.requires.thrifty_totals)

pub least_ceiling-ceiling-requires : goal.least_ceiling-ceiling-requires
least_ceiling-ceiling-requires c = record {
  room = c.requires.room.0;
  some_fits = thrifty_fits refl c.requires.thrifty_totals;
}

pub thrifty_pass-requires : goal.thrifty_pass-requires
thrifty_pass-requires c = room_framed c.requires.room.0 c.least_ceiling-ceiling.ensures.framed

pub finish-totals-requires : goal.finish-totals-requires
finish-totals-requires c =
    let l = c.least_ceiling-ceiling.ensures in
    let p = c.thrifty_pass.ensures in
    record {
      room = (room_framed (room_framed c.requires.room.0 l.framed) p.framed, c.requires.room.1);
      fact = (pass_under {P = problem (goal.at.finish-totals-requires c).Start} l p).one.0;
    }

pub returns : goal.returns
returns c =
    let l = c.least_ceiling-ceiling.ensures in
    let p = c.thrifty_pass.ensures in
    let f = c.finish-totals.ensures in
    finished_given {P = problem (goal.at.returns c).Start} (framed_on l.framed p.framed) f (minmax_is {P = problem (goal.at.returns c).Start} l (pass_under {P = problem (goal.at.returns c).Start} l p) c.from.ensures (values_are {P = problem (goal.at.returns c).Start} f.totals))
