-- `trellis::pass::pass` meets its contract: it is made of steps, and scan 0 answers.
use Rattle.std.proofs.Common.{refl, ◌≡◌, ◌-◌, ◌<◌, length, arith}
use Rattle.std.proofs.lemmas.List.{get_or-replicate}
use Rattle.checks.specs.Fit.{Fit}
use Rattle.checks.specs.Given.{table_in}
use Rattle.checks.proofs.GivenLaws.{fit_in}
use Rattle.trellis.proofs.ChoiceLaws.{need_more}
use Rattle.trellis.specs.Made.{unstepped, stepped}
use Rattle.trellis.proofs.PassLaws.{sixteen_zero, square_fits, first_fits, square_rates, square_counts, row_rates, row_counts, ready_later, ready_first}
use Rattle.trellis.proofs.MadeLaws.{stepped_long, stepped_done, pass_made}
use Rattle.trellis.proofs.pass.pass.Goals as goal
use Rattle.trellis.proofs.pass.pass.Goals.{Start}

-- what the tables are known to be
tables : (s : Start) → let t = s.args.t.now in Fit t.scans t.settings t.rates.now t.distortions.now t.weights.now (length s.args.scratch.now)
tables s = fit_in s.args.t.now s.requires.room

pub loop-i-init : goal.loop-i-init
loop-i-init c = record {
  keys_long = refl;
  sixteen = (sixteen_zero, sixteen_zero);
  steps = unstepped refl (λ p h. get_or-replicate 16 p 0 0 (omega (arith, c.args.t.now.sized.settings)));
}

pub square_into-requires-clause-fits : goal.square_into-requires-clause-fits
square_into-requires-clause-fits c =
    (c.args.t.now.sized.settings, square_fits c.of_scan-cells.ensures (tables (goal.at.square_into-requires-clause-fits c).Start) (omega arith) (omega arith))

pub step-requires-clause-room : goal.step-requires-clause-room
step-requires-clause-room c =
    let t = c.args.t.now in
    omega (arith, need_more t.scans t.settings (c.loop-i.i - 1) (omega arith), c.requires.room, stepped_long c.loop-i.invariant.steps)

pub step-requires-clause-ready : goal.step-requires-clause-ready
step-requires-clause-ready c =
    let f = tables (goal.at.step-requires-clause-ready c).Start in
    let r = c.args.rule in
    let l = c.loop-i in
    let w = c.square_into in
    let later : 0 < l.i - 1 = omega arith in
    λ p h. ready_later (table_in c.args.t.now) r f r.light (l.i - 1) p w.new.square w.new.counts l.keys later h
    (square_rates c.of_scan-cells.ensures r w.new.square later w.ensures.rates)
    (square_counts c.of_scan-cells.ensures r w.new.counts later w.ensures.counts) (stepped_done f r.light l.invariant.steps).row.capped

pub loop-i-preserved : goal.loop-i-preserved
loop-i-preserved c =
    let r = c.args.rule in
    let l = c.loop-i in
    let w = c.square_into in
    let later : 0 < l.i - 1 = omega arith in
    record {
      keys_long = c.step.ensures.keys_long;
      sixteen = w.ensures.still_sixteen;
      steps = stepped {i = l.i - 1} {j = l.i - 1 - 1} (omega arith) (omega arith) (square_rates c.of_scan-cells.ensures r w.new.square later w.ensures.rates)
          (square_counts c.of_scan-cells.ensures r w.new.counts later w.ensures.counts) c.step.ensures l.invariant.steps;
    }

pub row_into-requires : goal.row_into-requires
row_into-requires c = record { fits = (c.args.t.now.sized.settings, first_fits c.of_scan-first.ensures (tables (goal.at.row_into-requires c).Start) refl) }

pub pick-best-requires-clause-ready : goal.pick-best-requires-clause-ready
pick-best-requires-clause-ready c =
    let f = tables (goal.at.pick-best-requires-clause-ready c).Start in
    let r = c.args.rule in
    let w = c.row_into in
    λ q h. ready_first (table_in c.args.t.now) r f r.light w.new.row w.new.counts c.loop-i.keys (row_rates c.of_scan-first.ensures r w.new.row refl w.ensures.rates)
    (row_counts c.of_scan-first.ensures r w.new.counts refl w.ensures.counts) (stepped_done f r.light c.loop-i.invariant.steps).row.capped q
    (omega (arith, h, c.args.t.now.sized.some_settings))

pub store-requires-clause-chosen_bound : goal.store-requires-clause-chosen_bound
store-requires-clause-chosen_bound c =
    let t = c.args.t.now in (
      omega (arith, c.pick-best.ensures.best_of.inside, t.sized.some_settings),
      omega (arith, need_more t.scans t.settings 0 t.sized.some_scans, c.requires.room, stepped_long c.loop-i.invariant.steps),
    )

pub returns : goal.returns
returns c =
    let r = c.args.rule in
    let l = c.loop-i in
    let w = c.row_into in
    let v = c.pick-best in
    let e : l.i - 1 ≡ 0 = omega arith in
    pass_made (tables (goal.at.returns c).Start) r.light (record {
      keys = l.keys;
      scratch = l.scratch;
      steps = rw e at l.invariant.steps;
      rates = w.new.row;
      distortions = w.new.counts;
      rates_of = row_rates c.of_scan-first.ensures r w.new.row refl w.ensures.rates;
      distortions_of = row_counts c.of_scan-first.ensures r w.new.counts refl w.ensures.counts;
      least = v.result.key.0;
      first = v.result.first;
      best = v.ensures.best_of;
      stored = c.store.ensures;
      told = refl;
    })
