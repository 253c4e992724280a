-- `legal::judge` meets its contract: every cell before the scan that comes is legal, and the run that comes is that scan's.
use mathlib.Core.Path.{◌≡◌, refl, sym, ap}
use mathlib.Core.Option.{Option}
use Prim.Native.Nat.{ℕ, suc, ◌+◌}
use native.Mathlib.Omega.{arith}
use lib.ListN.{length, get_or}
use Rattle.std.proofs.lemmas.Result.{err_from_is_err_and}
use Rattle.tables.specs.declared.refusal.Refusal.{Refusal}
use Rattle.tables.specs.Legal.{weights_by_scan}
use Rattle.tables.specs.Tables.{scan_start}
use Rattle.tables.proofs.CellLaws.{scan_in_run, scan_inside, scans_end, square_small, cells_small}
use Rattle.legal.specs.Judged.{RunJudged}
use Rattle.legal.proofs.RunLaws.{run_weighs, walk_stops, walk_goes_on, walk_ends}
use Rattle.legal.proofs.judge.Goals as goal
use Rattle.legal.proofs.judge.Goals.{In-loop-weight}

-- a run that was judged with the weight at hand is that of one scan, and has its weight
scan_judged : (c : In-loop-weight) → {o : Option Refusal} →
    let a = c.args in
    let l = c.loop-weight in
    RunJudged (λ k. get_or a.weights.now l.weight-index 0) a.rates.now a.distortions.now l.from l.to o →
    RunJudged (weights_by_scan a.settings a.weights.now) a.rates.now a.distortions.now l.from l.to o
scan_judged c j =
    let a = c.args in
    let l = c.loop-weight in
    run_weighs a.rates.now a.distortions.now
    (λ k h g. ap (λ (i : ℕ). get_or a.weights.now i 0) (sym (scan_in_run a.settings l.weight-index k (omega (arith, l.invariant.0)) (omega (arith, l.invariant.1.0)))))
    j

pub overflow_mul-size : goal.overflow_mul-size
overflow_mul-size c = omega (arith, square_small {Q = c.args.settings} c.requires.settings)

pub loop-weight-init : goal.loop-weight-init
loop-weight-init c = (refl, (omega arith, λ k g h. absurd (omega arith)))

pub judge_run-requires : goal.judge_run-requires
judge_run-requires c =
    let l = c.loop-weight in
    let w = scan_inside (length c.args.weights.now) c.args.settings l.weight-index c.loop-weight-test.true in
    record {
      forward = omega (arith, w.0, l.invariant.0, l.invariant.1.0);
      in_rates = omega (arith, w.1, l.invariant.1.0, c.requires.rates);
      in_distortions = omega (arith, w.1, l.invariant.1.0, c.requires.distortions);
      short = omega (arith, w.1, l.invariant.1.0, cells_small {N = length c.args.weights.now} {Q = c.args.settings} c.requires.scans c.requires.settings);
      light = omega (arith, c.from.ensures, c.type_inv.weights l.weight-index);
    }

pub returns-in_err-judge_run : goal.returns-in_err-judge_run
returns-in_err-judge_run c =
    let l = c.loop-weight in
    let w = scan_inside (length c.args.weights.now) c.args.settings l.weight-index c.loop-weight-test.true in
    let p = err_from_is_err_and c.from_residual.result c.from_residual.ensures.1 in
    rw (p.1, p.2)
    (walk_stops _ _ _ (omega (arith, w.1, l.invariant.1.0, c.requires.rates)) c.loop-weight.invariant.1.1
    (scan_judged (goal.at.returns-in_err-judge_run c).In-loop-weight (rw c.from.ensures at c.in_err-judge_run.ensures)))

pub overflow_add-to : goal.overflow_add-to
overflow_add-to c =
    let l = c.loop-weight in
    let w = scan_inside (length c.args.weights.now) c.args.settings l.weight-index c.loop-weight-test.true in
    omega (
      arith,
      w.1,
      l.invariant.1.0,
      square_small {Q = c.args.settings} c.requires.settings,
      cells_small {N = length c.args.weights.now} {Q = c.args.settings} c.requires.scans c.requires.settings,
    )

pub loop-weight-preserved : goal.loop-weight-preserved
loop-weight-preserved c =
    let l = c.loop-weight in
    let e : l.weight-index + 1 ≡ suc l.weight-index = omega arith in (
      rw e l.invariant.1.0,
      (
        omega (arith, l.invariant.1.0),
        walk_goes_on _ _ _ l.invariant.1.1 (scan_judged (goal.at.loop-weight-preserved c).In-loop-weight (rw c.from.ensures at c.in_ok-judge_run.ensures)),
      ),
    )

pub returns : goal.returns
returns c =
    let l = c.loop-weight in
    let e : l.weight-index ≡ length c.args.weights.now = omega (arith, c.loop-weight-test.false) in
    walk_ends _ _ _ (omega (arith, c.requires.rates, l.invariant.0, scans_end (length c.args.weights.now) c.args.settings c.requires.some_scans, ap (scan_start c.args.settings) e)) l.invariant.1.1
