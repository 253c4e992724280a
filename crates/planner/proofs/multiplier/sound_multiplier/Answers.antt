-- `planner::multiplier::sound_multiplier` meets its contract.
use Rattle.criteria.specs.Choice.{Problem}
use Rattle.checks.specs.Given.{planning_in}
use Rattle.laws.proofs.Tests.{never}
use Rattle.checks.proofs.PlanningLaws.{sound_fit, sound_plan, sound_further, multiplier_in}
use Rattle.seek.proofs.SeekLaws.{fit_framed, room_framed}
use Rattle.planner.proofs.PromiseLaws.{values_are, says_none_allowed, says_planned}
use Rattle.planner.proofs.multiplier.sound_multiplier.Goals as goal
use Rattle.planner.proofs.multiplier.sound_multiplier.Goals.{Start}

abbrev problem : Start → Problem
problem s = planning_in s.args.t.now

pub multiplier_pass-requires : goal.multiplier_pass-requires
multiplier_pass-requires c = (sound_fit c.requires).room

pub invariant_of-multiplier_pass : goal.invariant_of-multiplier_pass
invariant_of-multiplier_pass c = record { in_range = multiplier_in {n = c.args.n} {d = c.args.d} (sound_further c.requires) }

pub finish-requires : goal.finish-requires
finish-requires c =
    let p = c.multiplier_pass.ensures in
    record {
      room = (room_framed (sound_fit c.requires).room p.framed, sound_plan c.requires);
      fact = (p.some c.if-multiplier_pass.true).one;
    }

pub returns-then-multiplier_pass : goal.returns-then-multiplier_pass
returns-then-multiplier_pass c =
    let p = c.multiplier_pass.ensures in
    let f = c.finish.ensures in
    says_planned c.requires p.framed f (p.some c.if-multiplier_pass.true, values_are {P = problem (goal.at.returns-then-multiplier_pass c).Start} f.totals)

-- where nothing was found, what the pass leaves and the end of the call
pub returns : goal.returns
returns c =
    let p = c.multiplier_pass.ensures in
    says_none_allowed c.requires p.framed c.close.ensures (p.none c.if-multiplier_pass.false)

pub close-requires : goal.close-requires
close-requires c =
    let fit = fit_framed (sound_fit c.requires) c.multiplier_pass.ensures.framed in
    record {
      scans_le_most_scans = (fit.scans, (fit.settings, (fit.room, sound_plan c.requires)));
      i_bound = λ e i h. never cc;
    }
