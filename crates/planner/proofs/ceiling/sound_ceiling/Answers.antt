-- `planner::ceiling::sound_ceiling` meets its contract: the least-rate plan under the ceiling, or a second pass that tells 8 from 9.
use Rattle.tables.specs.Law.{law_of}
use Rattle.criteria.specs.Choice.{Problem}
use Rattle.checks.specs.Given.{planning_in}
use Rattle.laws.proofs.Tests.{never}
use Rattle.checks.proofs.PlanningLaws.{sound_fit, sound_plan}
use Rattle.seek.proofs.SeekLaws.{fit_framed, room_framed, framed_on, open_under, nothing_under}
use Rattle.planner.proofs.PromiseLaws.{values_are, says_none_allowed, says_none_within, says_planned}
use Rattle.planner.proofs.ceiling.sound_ceiling.Goals as goal
use Rattle.planner.proofs.ceiling.sound_ceiling.Goals.{Start}

abbrev problem : Start → Problem
problem s = planning_in s.args.t.now

pub thrifty_pass-requires : goal.thrifty_pass-requires
thrifty_pass-requires c = (sound_fit c.requires).room

pub finish-requires : goal.finish-requires
finish-requires c =
    let p = c.thrifty_pass.ensures in
    record {
      room = (room_framed (sound_fit c.requires).room p.framed, sound_plan c.requires);
      fact = (p.some c.if-thrifty_pass.true).one.0;
    }

pub returns-then-thrifty_pass : goal.returns-then-thrifty_pass
returns-then-thrifty_pass c =
    let p = c.thrifty_pass.ensures in
    let f = c.finish.ensures in
    says_planned c.requires p.framed f (p.some c.if-thrifty_pass.true, values_are {P = problem (goal.at.returns-then-thrifty_pass c).Start} f.totals)

pub thrifty_pass-any-requires : goal.thrifty_pass-any-requires
thrifty_pass-any-requires c = room_framed (sound_fit c.requires).room c.thrifty_pass.ensures.framed

-- where nothing was found, what the two passes leave and the end of the call
pub returns-then-any : goal.returns-then-any
returns-then-any c =
    let p = c.thrifty_pass.ensures in
    let q = c.thrifty_pass-any.ensures in
    says_none_within c.requires (framed_on p.framed q.framed) c.close.ensures
    (nothing_under {P = problem (goal.at.returns-then-any c).Start} q c.if-any.true (p.none c.if-thrifty_pass.false))

pub returns : goal.returns
returns c =
    let p = c.thrifty_pass.ensures in
    let q = c.thrifty_pass-any.ensures in
    says_none_allowed c.requires (framed_on p.framed q.framed) c.close.ensures
    (λ t a. q.none c.if-any.false t (open_under (law_of c.args.t.now.law) (sound_fit c.requires) t a))

pub close-requires : goal.close-requires
close-requires c =
    let fit = fit_framed (fit_framed (sound_fit c.requires) c.thrifty_pass.ensures.framed) c.thrifty_pass-any.ensures.framed in
    record {
      scans_le_most_scans = (fit.scans, (fit.settings, (fit.room, sound_plan c.requires)));
      i_bound = λ e i h. never cc;
    }
