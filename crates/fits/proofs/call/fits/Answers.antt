-- `fits::call::fits` meets its contract: the checks before 7, and then the scans.
use mathlib.Core.Path.{sym}
use Rattle.std.proofs.lemmas.Result.{err_from_is_err_and}
use Rattle.fits.specs.Fits.{early}
use Rattle.fits.proofs.ReadLaws.{refusal_is}
use Rattle.fits.proofs.call.fits.Goals as goal

pub scan_by_scan-requires : goal.scan_by_scan-requires
scan_by_scan-requires c =
    let a = c.args.asked.now in
    sym (refusal_is a.scans a.settings a.law a.budget a.rates.now a.distortions.now c.in_ok-plain_front.ensures c.no_law.ensures)

pub returns-in_err-plain_front : goal.returns-in_err-plain_front
returns-in_err-plain_front c =
    let a = c.args.asked.now in
    let p = err_from_is_err_and c.from_residual.result c.from_residual.ensures.1 in
    rw (p.1, p.2) (early (sym (refusal_is a.scans a.settings a.law a.budget a.rates.now a.distortions.now c.in_err-plain_front.ensures c.no_law.ensures)))
