-- `within::fill::fill` meets its contract. The loop's invariant: the scans from i on are done.
use Rattle.std.proofs.Common.{◌≡◌, ℕ, refl, ◌+◌, ◌-◌, ◌*◌, ◌≤◌, ◌<◌, arith}
use native.Mathlib.Nat.{mul-le-mul_right}
use Rattle.laws.proofs.Lists.{part_inside}
use Rattle.tables.specs.Tables.{scratch_need}
use Rattle.checks.specs.Fit.{Fit}
use Rattle.checks.specs.Given.{table_in}
use Rattle.checks.proofs.GivenLaws.{fit_in}
use Rattle.trellis.proofs.PassLaws.{square_fits, first_fits}
use Rattle.within.proofs.FillLaws.{done_fits, turns_apart, done_more, filled}
use Rattle.within.proofs.fill.fill.Goals as goal
use Rattle.within.proofs.fill.fill.Goals.{Start}

-- what the tables are known to be
tables : (s : Start) → let t = s.args.t.now in Fit t.scans t.settings t.rates.now t.distortions.now t.weights.now (scratch_need t.scans t.settings)
tables s = fit_in s.args.t.now (omega arith)

-- the places of a scan lie in the choices
places_inside : (s : Start) (i : ℕ) → i < s.args.t.now.scans →
    i * (s.args.t.now.settings * s.args.width) + s.args.t.now.settings * s.args.width ≤ s.args.t.now.scans * (s.args.t.now.settings * s.args.width)
places_inside s i h = part_inside (s.args.t.now.settings * s.args.width) {j = i} {m = s.args.t.now.scans} h

pub scan-requires-clause-cells : goal.scan-requires-clause-cells
scan-requires-clause-cells c =
    (c.requires.narrow, square_fits c.of_scan-cells.ensures (tables (goal.at.scan-requires-clause-cells c).Start) (omega arith) (omega arith))

pub scan-requires-clause-fits : goal.scan-requires-clause-fits
scan-requires-clause-fits c =
    let l = c.loop-i in
    done_fits (table_in c.args.t.now) c.args.width l.invariant (omega (arith, c.put_all.ensures.long)) (omega arith)
    (omega (arith, places_inside (goal.at.scan-requires-clause-fits c).Start (l.i - 1) (omega arith)))

pub loop-i-preserved : goal.loop-i-preserved
loop-i-preserved c =
    let l = c.loop-i in
    rw (c.swap.ensures.x_after, c.swap.ensures.y_after)
    (done_more (table_in c.args.t.now) c.args.width (tables (goal.at.loop-i-preserved c).Start) c.requires.narrow l.ahead l.totals (omega arith)
    c.of_scan-cells.ensures c.scan.ensures l.invariant (omega arith))

pub row-requires-clause-cells : goal.row-requires-clause-cells
row-requires-clause-cells c = (c.requires.narrow, first_fits c.of_scan-first.ensures (tables (goal.at.row-requires-clause-cells c).Start) refl)

pub row-requires-clause-fits : goal.row-requires-clause-fits
row-requires-clause-fits c =
    let t = c.args.t.now in
    let q = mul-le-mul_right {m = 1} {n = t.settings} c.args.width t.sized.some_settings in
    done_fits (table_in t) c.args.width c.loop-i.invariant (omega (arith, c.put_all.ensures.long)) (omega arith)
    (omega (arith, places_inside (goal.at.row-requires-clause-fits c).Start 0 t.sized.some_scans))

pub returns : goal.returns
returns c =
    let l = c.loop-i in
    let p = c.put_all.ensures in
    let t = c.args.t.now in
    let e : l.i - 1 ≡ 0 = omega arith in
    let q = mul-le-mul_right {m = 1} {n = t.settings} c.args.width t.sized.some_settings in
    filled (table_in t) c.args.width (tables (goal.at.returns c).Start) c.requires.narrow c.of_scan-first.ensures p (rw e at l.invariant) c.row.ensures
    (omega (arith, p.long, l.invariant.totals_long, (turns_apart l.invariant.turns).1.0))
