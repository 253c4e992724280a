-- `imports::import::early` meets its contract: 1, 2 and 6.
use mathlib.Core.Path.{sym, refl}
use Rattle.std.proofs.lemmas.Result.{err_from_is_err_and}
use Rattle.imports.proofs.ImportLaws.{ranges_stop, room_decides, short_is, in_both}
use Rattle.imports.proofs.import.early.Goals as goal

pub returns-in_err-ranges-clause-refusal : goal.returns-in_err-ranges-clause-refusal
returns-in_err-ranges-clause-refusal c =
    let p = err_from_is_err_and c.from_residual.result c.from_residual.ensures.1 in
    rw (p.1, p.2) (ranges_stop _ _ _ _ _ c.in_err-ranges.ensures refl)

pub invariant_of-size : goal.invariant_of-size
invariant_of-size c = let r = in_both _ _ (sym c.in_ok-ranges.ensures) in record { within = (r.0.0, (r.0.1, r.1)) }

pub returns-in_err-unless-clause-refusal : goal.returns-in_err-unless-clause-refusal
returns-in_err-unless-clause-refusal c =
    let a = c.args in
    let p = err_from_is_err_and c.from_residual-in_err-unless.result c.from_residual-in_err-unless.ensures.1 in
    rw (p.1, p.2) (room_decides _ _ _ _ _ (sym c.in_ok-ranges.ensures) (short_is a.scans a.settings a.rates a.distortions a.scratch c.in_err-unless.ensures c.too_short.ensures c.cells.ensures))

pub returns-clause-refusal : goal.returns-clause-refusal
returns-clause-refusal c =
    let a = c.args in
    room_decides _ _ _ _ _ (sym c.in_ok-ranges.ensures) (short_is a.scans a.settings a.rates a.distortions a.scratch c.in_ok-unless.ensures c.too_short.ensures c.cells.ensures)
