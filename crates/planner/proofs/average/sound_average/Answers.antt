-- `planner::average::sound_average` meets its contract: the start, and what follows where the least-rate plan fits.
use Rattle.std.proofs.lemmas.Result.{err_from_is_err_and}
use Rattle.criteria.specs.Choice.{Problem}
use Rattle.checks.specs.Given.{planning_in}
use Rattle.checks.proofs.PlanningLaws.{sound_fit, sound_plan}
use Rattle.seek.proofs.SeekLaws.{room_framed}
use Rattle.seek.proofs.StartLaws.{started_plan}
use Rattle.planner.proofs.PromiseLaws.{started_refused, started_given}
use Rattle.planner.proofs.average.sound_average.Goals as goal
use Rattle.planner.proofs.average.sound_average.Goals.{Start}

abbrev problem : Start → Problem
problem s = planning_in s.args.t.now

pub start-requires : goal.start-requires
start-requires c = (sound_fit c.requires).room

pub average_that_fits-requires : goal.average_that_fits-requires
average_that_fits-requires c =
    let h = started_plan {P = problem (goal.at.average_that_fits-requires c).Start} c.in_ok-lo.ensures in
    record {
      room = (room_framed (sound_fit c.requires).room h.1, sound_plan c.requires);
      thrifty_totals = h.0;
    }

pub returns : goal.returns
returns c =
    started_given c.requires (started_plan {P = problem (goal.at.returns c).Start} c.in_ok-lo.ensures).1 c.average_that_fits.ensures

pub returns-in_err-lo : goal.returns-in_err-lo
returns-in_err-lo c =
    let p = err_from_is_err_and c.from_residual.result c.from_residual.ensures.1 in
    rw (p.1, p.2) (started_refused _ c.requires c.in_err-lo.ensures)
