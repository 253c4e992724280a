-- `best::plan::sought` meets its contract: the start, and what follows where the least-rate plan fits.
use mathlib.Core.Path.{refl}
use Rattle.std.proofs.lemmas.Result.{err_from_is_err_and}
use Rattle.criteria.specs.Choice.{Problem}
use Rattle.checks.specs.Given.{planning_in}
use Rattle.seek.proofs.SeekLaws.{room_framed}
use Rattle.seek.proofs.StartLaws.{started_plan}
use Rattle.best.proofs.CallLaws.{ready, started_refused, started_given}
use Rattle.best.proofs.plan.sought.Goals as goal
use Rattle.best.proofs.plan.sought.Goals.{Start}

abbrev problem : Start → Problem
problem s = planning_in s.args.t.now

pub start-requires : goal.start-requires
start-requires c = (ready c.requires).fit.room

pub best_that_fits-requires : goal.best_that_fits-requires
best_that_fits-requires c =
    let r = ready c.requires in
    let h = started_plan {P = problem (goal.at.best_that_fits-requires c).Start} c.in_ok-start.ensures in
    let f = h.1.long in record {
      room = (room_framed r.fit.room h.1, (r.plan_room, r.short_budget));
      budget_in_bounds = (rw f r.choices_room, r.totals_room);
      by_index = (h.0.plan, (h.0.thriftiest.one, h.0.fits));
    }

pub returns : goal.returns
returns c =
    started_given c.requires (started_plan {P = problem (goal.at.returns c).Start} c.in_ok-start.ensures).1 c.best_that_fits.ensures.best_given c.best_that_fits.ensures.both_framed

pub returns-in_err-start : goal.returns-in_err-start
returns-in_err-start c =
    let p = err_from_is_err_and c.from_residual.result c.from_residual.ensures.1 in
    rw (p.1, p.2) (started_refused c.requires _ refl c.in_err-start.ensures)
