-- `planner::average::average_that_fits` meets its contract: the plan at zero, or where the slopes end.
use Rattle.tables.specs.Law.{law_of}
use Rattle.criteria.specs.Choice.{Problem}
use Rattle.checks.specs.Given.{planning_in}
use Rattle.checks.proofs.GivenLaws.{fit_in}
use native.Mathlib.Omega.{arith}
use mathlib.Core.Path.{refl, ◌∙◌}
use Rattle.criteria.specs.Found.{at_zero}
use Rattle.criteria.proofs.Reduce.{average_reduced}
use Rattle.seek.proofs.SeekLaws.{room_framed, framed_on, sums_small}
use Rattle.planner.proofs.PromiseLaws.{finished_given}
use Rattle.search.proofs.SlopeLaws.{pass_finds}
use Rattle.planner.proofs.AverageLaws.{bracket_first, answer_is, slope_budget, slope_answer, finished_small}
use Rattle.planner.proofs.average.average_that_fits.Goals as goal
use Rattle.planner.proofs.average.average_that_fits.Goals.{Start}

abbrev problem : Start → Problem
problem s = planning_in s.args.t.now

pub multiplier_pass-requires : goal.multiplier_pass-requires
multiplier_pass-requires c = c.requires.room.0

pub total_up-hi-requires : goal.total_up-hi-requires
total_up-hi-requires c =
    let p = c.multiplier_pass.ensures in
    record {
      room = room_framed c.requires.room.0 p.framed;
      fact = (pass_finds {P = problem (goal.at.total_up-hi-requires c).Start} p c.requires.thrifty_totals.plan c.requires.thrifty_totals.thriftiest.one).one;
    }

pub finish-totals-requires : goal.finish-totals-requires
finish-totals-requires c =
    let p = c.multiplier_pass.ensures in
    record {
      room = (room_framed c.requires.room.0 p.framed, c.requires.room.1);
      fact = (pass_finds {P = problem (goal.at.finish-totals-requires c).Start} p c.requires.thrifty_totals.plan c.requires.thrifty_totals.thriftiest.one).one;
    }

pub answer-requires : goal.answer-requires
answer-requires c =
    let m = pass_finds {P = problem (goal.at.answer-requires c).Start} c.multiplier_pass.ensures c.requires.thrifty_totals.plan c.requires.thrifty_totals.thriftiest.one in
    record {
      rate_le_most_total = finished_small {P = problem (goal.at.answer-requires c).Start} (sums_small (law_of c.args.t.now.law) (fit_in c.args.t.now c.requires.room.0)) m.one c.finish-totals.ensures.totals;
      budget_bound = omega arith;
    }

pub shape_of-scratch-then-hi-budget : goal.shape_of-scratch-then-hi-budget
shape_of-scratch-then-hi-budget c = c.finish-totals.auto.scratch ∙ c.multiplier_pass.ensures.framed.long

pub returns-then-hi-budget : goal.returns-then-hi-budget
returns-then-hi-budget c =
    let p = c.multiplier_pass.ensures in
    let f = c.finish-totals.ensures in
    let m = pass_finds {P = problem (goal.at.returns-then-hi-budget c).Start} p c.requires.thrifty_totals.plan c.requires.thrifty_totals.thriftiest.one in
    finished_given {P = problem (goal.at.returns-then-hi-budget c).Start} p.framed f (answer_is {P = problem (goal.at.returns-then-hi-budget c).Start} {n = 0} {d = 1}
    (average_reduced (problem (goal.at.returns-then-hi-budget c).Start) 0 1 _ (omega arith) m (omega (arith, c.if-hi-budget.true, c.total_up-hi.ensures.rate)) (at_zero refl)) c.answer.ensures f.totals)

pub slopes-s-requires : goal.slopes-s-requires
slopes-s-requires c =
    let p = c.multiplier_pass.ensures in
    record {
      room = room_framed c.requires.room.0 p.framed;
      bracketed = bracket_first c.requires.thrifty_totals (pass_finds {P = problem (goal.at.slopes-s-requires c).Start} p c.requires.thrifty_totals.plan c.requires.thrifty_totals.thriftiest.one) c.total_up-hi.ensures c.if-hi-budget.false;
    }

pub finish-totals-requires-2 : goal.finish-totals-requires-2
finish-totals-requires-2 c =
    let e = c.slopes-s.ensures in
    record {
      room = (room_framed (room_framed c.requires.room.0 c.multiplier_pass.ensures.framed) e.framed, c.requires.room.1);
      fact = e.ended.plan.one;
    }

pub answer-requires-2 : goal.answer-requires-2
answer-requires-2 c =
    let e = c.slopes-s.ensures in
    let small = sums_small (law_of c.args.t.now.law) (fit_in c.args.t.now c.requires.room.0) in record {
      rate_le_most_total = finished_small {P = problem (goal.at.answer-requires-2 c).Start} small e.ended.plan.one c.finish-totals-2.ensures.totals;
      budget_bound = slope_budget {P = problem (goal.at.answer-requires-2 c).Start} e (λ t a. (small t a).1);
    }

pub shape_of-scratch : goal.shape_of-scratch
shape_of-scratch c = c.finish-totals-2.auto.scratch ∙ c.slopes-s.ensures.framed.long ∙ c.multiplier_pass.ensures.framed.long

pub returns : goal.returns
returns c =
    let e = c.slopes-s.ensures in
    let f = c.finish-totals-2.ensures in
    finished_given {P = problem (goal.at.returns c).Start} (framed_on c.multiplier_pass.ensures.framed e.framed) f
    (slope_answer {P = problem (goal.at.returns c).Start} e c.answer-2.ensures f.totals)
