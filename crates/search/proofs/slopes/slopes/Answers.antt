-- `search::slopes::slopes` meets its contract: the bracket narrows until a plan ties. The measure is its width in rate.
use mathlib.Core.Path.{refl}
use Prim.Native.Nat.{◌-◌, ◌<◌}
use Rattle.tables.specs.Law.{law_of}
use Rattle.criteria.specs.Choice.{Problem}
use Rattle.checks.specs.Given.{planning_in}
use Rattle.checks.proofs.GivenLaws.{fit_in}
use Rattle.search.specs.Search.{Bracketed}
use Rattle.seek.proofs.SeekLaws.{room_framed, framed_on, framed_none, sums_small}
use Rattle.search.proofs.SlopeLaws.{pass_finds, bracket_falls, bracket_rises, bracket_small, lo_allowed, slope_ends, narrowed_more, totals_cost_small}
use Rattle.search.proofs.slopes.slopes.Goals as goal
use Rattle.search.proofs.slopes.slopes.Goals.{After-narrowed-at, Start}

abbrev problem : Start → Problem
problem s = planning_in s.args.t.now

-- the next bracket, and that it is narrower
next : (c : After-narrowed-at) → Bracketed
    (problem (goal.at.After-narrowed-at c).Start)
    c.args.budget c.narrowed-at.result.lo c.narrowed-at.result.hi ×
    (c.narrowed-at.result.hi.rate.0 - c.narrowed-at.result.lo.rate.0 < c.loop-at.at.hi.rate.0 - c.loop-at.at.lo.rate.0)
next c =
    let i = c.loop-at.invariant in
    narrowed_more i.0 c.slope_of-s.ensures (pass_finds {P = problem (goal.at.After-narrowed-at c).Start} c.multiplier_pass.ensures i.0.lo_plan (lo_allowed i.0)) c.total_up-plan.ensures
    c.ties.ensures c.if-ties.false refl refl c.narrowed-at.ensures

pub loop-at-init : goal.loop-at-init
loop-at-init c = (c.requires.bracketed, framed_none _)

pub slope_of-s-requires : goal.slope_of-s-requires
slope_of-s-requires c =
    let b = c.loop-at.invariant.0 in
    record {
      order = (bracket_falls b, bracket_rises b);
      small = bracket_small b (sums_small (law_of c.args.t.now.law) (fit_in c.args.t.now c.requires.room));
    }

pub multiplier_pass-requires : goal.multiplier_pass-requires
multiplier_pass-requires c = room_framed c.requires.room c.loop-at.invariant.1

pub total_up-plan-requires : goal.total_up-plan-requires
total_up-plan-requires c =
    let i = c.loop-at.invariant in
    let p = c.multiplier_pass.ensures in
    record {
      room = room_framed (room_framed c.requires.room i.1) p.framed;
      fact = (pass_finds {P = problem (goal.at.total_up-plan-requires c).Start} p i.0.lo_plan (lo_allowed i.0)).one;
    }

pub ties-requires : goal.ties-requires
ties-requires c =
    let i = c.loop-at.invariant in
    let small = sums_small (law_of c.args.t.now.law) (fit_in c.args.t.now c.requires.room) in
    let l = c.slope_of-s.result.in_range in (
      totals_cost_small {P = problem (goal.at.ties-requires c).Start} small c.total_up-plan.ensures (pass_finds {P = problem (goal.at.ties-requires c).Start} c.multiplier_pass.ensures i.0.lo_plan (lo_allowed i.0)).one l,
      totals_cost_small {P = problem (goal.at.ties-requires c).Start} small i.0.lo_totals (lo_allowed i.0) l,
    )

pub shape_of-scratch-then-ties : goal.shape_of-scratch-then-ties
shape_of-scratch-then-ties c = (framed_on c.loop-at.invariant.1 c.multiplier_pass.ensures.framed).long

pub returns-then-ties : goal.returns-then-ties
returns-then-ties c =
    let i = c.loop-at.invariant in
    let p = c.multiplier_pass.ensures in
    let l = c.slope_of-s.result.in_range in
    record {
      ended = slope_ends i.0 c.slope_of-s.ensures (pass_finds {P = problem (goal.at.returns-then-ties c).Start} p i.0.lo_plan (lo_allowed i.0)) c.total_up-plan.ensures c.ties.ensures c.if-ties.true;
      small_n = l.0;
      small_d = l.1.1;
      framed = framed_on i.1 p.framed;
    }

pub narrowed-at-requires : goal.narrowed-at-requires
narrowed-at-requires c = tt

pub loop-at-smaller : goal.loop-at-smaller
loop-at-smaller c = (next (goal.at.loop-at-smaller c).After-narrowed-at).1

pub loop-at-preserved : goal.loop-at-preserved
loop-at-preserved c = ((next (goal.at.loop-at-preserved c).After-narrowed-at).0, framed_on c.loop-at.invariant.1 c.multiplier_pass.ensures.framed)
