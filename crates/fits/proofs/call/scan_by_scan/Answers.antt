-- `fits::call::scan_by_scan` meets its contract: how a scan is read.
use mathlib.Core.Path.{refl}
use Prim.Native.Nat.{suc}
use native.Mathlib.Omega.{arith}
use Rattle.std.proofs.lemmas.Result.{err_from_is_err_and}
use Rattle.tables.proofs.CellLaws.{cells_small}
use Rattle.fits.specs.Reach.{Reached, LastWithin}
use Rattle.fits.specs.Fits.{Question, table_asked, series_asked, LegalScan}
use Rattle.fits.specs.Given.{question_in}
use Rattle.fits.proofs.ReachLaws.{reach_step}
use Rattle.fits.proofs.ReadLaws.{ready, lengths_right, limit_of, first_zero, before_start, run_within, few_within, ends_seven, now_legal, ends_no, goes_on, ends_yes}
use Rattle.fits.proofs.call.scan_by_scan.Goals as goal
use Rattle.fits.proofs.call.scan_by_scan.Goals.{After-step-least, After-last_within-reached, Start}

-- what is asked
abbrev asked : Start → Question
asked s = question_in s.args.asked.now

pub loop-scan-init : goal.loop-scan-init
loop-scan-init c = before_start (asked (goal.at.loop-scan-init c).Start) _ refl (first_zero c.args.asked.now.settings (ready (asked (goal.at.loop-scan-init c).Start) c.requires).settings)

pub overflow_mul-to : goal.overflow_mul-to
overflow_mul-to c = omega (arith, (run_within c.requires c.loop-scan.invariant c.loop-scan-test.true).in_rates)

pub overflow_add-to : goal.overflow_add-to
overflow_add-to c = omega (arith, (run_within c.requires c.loop-scan.invariant c.loop-scan-test.true).in_rates)

pub judge_run-requires : goal.judge_run-requires
judge_run-requires c =
    let w = run_within c.requires c.loop-scan.invariant c.loop-scan-test.true in
    let n = lengths_right (asked (goal.at.judge_run-requires c).Start) c.requires in
    let r = ready (asked (goal.at.judge_run-requires c).Start) c.requires in
    let most = cells_small {N = c.args.asked.now.scans} {Q = c.args.asked.now.settings} r.scans r.settings in
    record {
      forward = omega (arith, w.forward, w.in_rates);
      in_rates = omega (arith, w.in_rates);
      in_distortions = omega (arith, w.in_distortions, n.0, n.1);
      short = omega (arith, w.short, n.0, most);
      light = omega arith;
    }

pub returns-in_err-judge_run : goal.returns-in_err-judge_run
returns-in_err-judge_run c =
    let p = err_from_is_err_and c.from_residual.result c.from_residual.ensures.1 in
    rw (p.1, p.2) (ends_seven c.requires c.loop-scan.invariant c.loop-scan-test.true c.in_err-judge_run.ensures refl)

pub step-least-requires-clause-rows_le_settings : goal.step-least-requires-clause-rows_le_settings
step-least-requires-clause-rows_le_settings c =
    let w = few_within c.requires c.loop-scan.invariant c.loop-scan-test.true in
    (w.0, ((ready (asked (goal.at.step-least-requires-clause-rows_le_settings c).Start) c.requires).settings, w.1))

-- the scan has no illegal cell
scan_legal : (c : After-step-least) → LegalScan (asked (goal.at.After-step-least c).Start) c.loop-scan.scan
scan_legal c = now_legal c.requires c.loop-scan.invariant c.loop-scan-test.true c.in_ok-judge_run.ensures refl

-- .. and is counted
scan_counted : (c : After-step-least) → Reached (series_asked (asked (goal.at.After-step-least c).Start)) (suc c.loop-scan.scan) (limit_of (asked (goal.at.After-step-least c).Start)) c.step-least.result
scan_counted c =
    let b = c.loop-scan.invariant in
    reach_step (table_asked (asked (goal.at.After-step-least c).Start)) c.loop-scan.scan (limit_of (asked (goal.at.After-step-least c).Start)) (omega (arith, b.few_are, b.rows_are)) b.past b.reached (rw b.from_is at c.step-least.ensures)

-- .. and what is within the limit behind it
scan_within : (c : After-last_within-reached) → LastWithin (asked (goal.at.After-last_within-reached c).Start).Q (limit_of (asked (goal.at.After-last_within-reached c).Start)) c.step-least.result c.last_within-reached.result
scan_within c = rw c.min-limit.ensures at c.last_within-reached.ensures

pub last_within-reached-requires : goal.last_within-reached-requires
last_within-reached-requires c = (ready (asked (goal.at.last_within-reached-requires c).Start) c.requires).settings

pub returns-then-reached-eq0 : goal.returns-then-reached-eq0
returns-then-reached-eq0 c =
    let at = goal.at.returns-then-reached-eq0 c in
    ends_no c.requires c.loop-scan.invariant c.loop-scan-test.true (scan_legal at.After-step-least) (scan_counted at.After-step-least) (scan_within at.After-last_within-reached) c.if-reached-eq0.true

pub loop-scan-preserved : goal.loop-scan-preserved
loop-scan-preserved c =
    let at = goal.at.loop-scan-preserved c in
    goes_on c.requires c.loop-scan.invariant c.loop-scan-test.true (scan_legal at.After-step-least) (scan_counted at.After-step-least) (scan_within at.After-last_within-reached) c.if-reached-eq0.false

pub returns : goal.returns
returns c = ends_yes c.requires c.loop-scan.invariant (omega (arith, c.loop-scan-test.false, c.loop-scan.invariant.inside))
