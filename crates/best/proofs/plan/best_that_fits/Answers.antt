-- `best::plan::best_that_fits` meets its contract: the totals, the least budget, the sequence, and its end.
use Prim.Native.Nat.{◌+◌}
use native.Mathlib.Omega.{arith}
use Rattle.criteria.specs.Choice.{TrueBest}
use Rattle.tables.specs.Tables.{Table, planning}
use Rattle.checks.specs.Given.{table_in}
use Rattle.seek.proofs.SeekLaws.{framed_on, room_framed}
use Rattle.best.specs.Best.{choices_need}
use Rattle.best.specs.Traced.{traced}
use Rattle.best.proofs.BestLaws.{best_found, follows}
use Rattle.best.proofs.FrameLaws.{framed_wider, cleared_framed}
use Rattle.best.proofs.CallLaws.{need_inside}
use Rattle.best.proofs.plan.best_that_fits.Goals as goal
use Rattle.best.proofs.plan.best_that_fits.Goals.{After-least_left-left, Start}

-- the table that is planned
abbrev over : Start → Table
over s = table_in s.args.t.now

pub retrace-requires : goal.retrace-requires
retrace-requires c =
    let f = c.fill-row in
    let l = c.least_left-left in record {
      room = (rw f.ensures.choices_long c.requires.room.0, (l.ensures.inside, omega (arith, c.requires.room.1.1)));
      width_in_bounds = omega (arith, c.requires.budget_in_bounds.0, f.ensures.choices_long);
      followable = follows (over (goal.at.retrace-requires c).Start) c.args.budget f.result l.result f.new.totals f.new.choices f.ensures.ahead l.ensures c.requires.by_index;
    }

-- the sequence that is traced is the true best
found : (c : After-least_left-left) →
    let f = c.fill-row in
    TrueBest (planning (over (goal.at.After-least_left-left c).Start)) c.args.budget (traced c.args.t.now.scans c.args.t.now.settings (c.args.budget + 1) c.least_left-left.result c.args.t.now.rates.now f.new.choices)
found c =
    let f = c.fill-row in
    best_found (over (goal.at.After-least_left-left c).Start) c.args.budget f.result c.least_left-left.result f.new.totals f.new.choices f.ensures.ahead c.least_left-left.ensures c.requires.by_index

pub finish-requires : goal.finish-requires
finish-requires c =
    let f = c.fill-row in
    let r = c.retrace.ensures in record {
      room = (room_framed (rw f.ensures.choices_long c.requires.room.0) r.framed, c.requires.room.1.0);
      fact = rw r.stands (found (goal.at.finish-requires c).After-least_left-left).one.0;
    }

pub returns : goal.returns
returns c =
    let a = c.args in
    let f = c.fill-row.ensures in
    let r = c.retrace.ensures in
    let e = c.finish.ensures in
    let n = need_inside a.t.now.scans a.t.now.settings a.budget in record {
      best_given = record {
        settings = traced a.t.now.scans a.t.now.settings (a.budget + 1) c.least_left-left.result a.t.now.rates.now c.fill-row.new.choices;
        is_best = found (goal.at.returns c).After-least_left-left;
        totals = rw r.stands at e.totals;
        handed = rw r.stands at e.handed;
      };
      both_framed = (
        framed_on {k = choices_need a.t.now.scans a.t.now.settings a.budget} (record { long = f.choices_long; rest = λ k g. f.choices_rest k g })
            (framed_on {k = choices_need a.t.now.scans a.t.now.settings a.budget} (framed_wider n r.framed) (framed_wider n (cleared_framed (omega (arith, c.requires.room.0, f.choices_long, r.framed.long)) e.wiped))),
        record { long = f.totals_long; rest = λ k g. f.totals_rest k (omega arith) },
      );
    }
