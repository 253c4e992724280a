-- `planner::minmax::sound_minmax` meets its contract: the start, and what follows where the least-rate plan fits.
use Rattle.std.proofs.lemmas.Result.{err_from_is_err_and}
use Rattle.criteria.specs.Choice.{Problem}
use Rattle.checks.specs.Given.{planning_in}
use Rattle.checks.proofs.PlanningLaws.{sound_fit, sound_plan}
use Rattle.seek.proofs.SeekLaws.{room_framed}
use Rattle.seek.proofs.StartLaws.{started_plan}
use Rattle.planner.proofs.PromiseLaws.{started_refused, started_given}
use Rattle.planner.proofs.minmax.sound_minmax.Goals as goal
use Rattle.planner.proofs.minmax.sound_minmax.Goals.{Start}

abbrev problem : Start → Problem
problem s = planning_in s.args.t.now

pub start-requires : goal.start-requires
start-requires c = (sound_fit c.requires).room

pub minmax_that_fits-requires : goal.minmax_that_fits-requires
minmax_that_fits-requires c =
    let h = started_plan {P = problem (goal.at.minmax_that_fits-requires c).Start} c.in_ok-thriftiest.ensures in
    record {
      room = (room_framed (sound_fit c.requires).room h.1, sound_plan c.requires);
      thrifty_totals = h.0;
    }

pub returns : goal.returns
returns c =
    started_given c.requires (started_plan {P = problem (goal.at.returns c).Start} c.in_ok-thriftiest.ensures).1 c.minmax_that_fits.ensures

pub returns-in_err-thriftiest : goal.returns-in_err-thriftiest
returns-in_err-thriftiest c =
    let p = err_from_is_err_and c.from_residual.result c.from_residual.ensures.1 in
    rw (p.1, p.2) (started_refused _ c.requires c.in_err-thriftiest.ensures)
