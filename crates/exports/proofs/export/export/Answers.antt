-- `exports::export::export` meets its contract: the checks, the length, and then the bytes.
use mathlib.Core.Path.{◌≡◌, sym}
use mathlib.Core.Option.{none}
use native.Mathlib.Omega.{arith}
use Rattle.std.proofs.lemmas.Result.{err_from_is_err_and}
use Rattle.checks.specs.Checks.{first_refusal}
use Rattle.exports.specs.Export.{early_checks}
use Rattle.exports.proofs.EarlyLaws.{exportable}
use Rattle.exports.proofs.ExportLaws.{refuses_check, refuses_room, gives_text}
use Rattle.exports.proofs.export.export.Goals as goal
use Rattle.exports.proofs.export.export.Goals.{In_ok-early}

-- the checks have passed
passed : (c : In_ok-early) → let a = c.args in first_refusal (early_checks a.scans a.settings a.rates.now a.distortions.now) ≡ none
passed c = sym c.in_ok-early.ensures

pub returns-in_err-early : goal.returns-in_err-early
returns-in_err-early c =
    let a = c.args in
    let p = err_from_is_err_and c.from_residual.result c.from_residual.ensures.1 in
    let e = refuses_check a.scans a.settings a.rates.now a.distortions.now a.text.now (sym c.in_err-early.ensures) in
    record { result_value = rw (p.1, p.2) e.0; text_after = e.1 }

pub measure-n-requires : goal.measure-n-requires
measure-n-requires c = exportable _ _ _ _ (passed (goal.at.measure-n-requires c).In_ok-early)

pub returns-then-text-n : goal.returns-then-text-n
returns-then-text-n c =
    let a = c.args in
    let e = refuses_room a.scans a.settings a.rates.now a.distortions.now a.text.now (passed (goal.at.returns-then-text-n c).In_ok-early) (omega (arith, c.if-text-n.true, c.measure-n.ensures.0)) in
    record { result_value = e.0; text_after = e.1 }

pub put_all-requires-clause-exportable : goal.put_all-requires-clause-exportable
put_all-requires-clause-exportable c = exportable _ _ _ _ (passed (goal.at.put_all-requires-clause-exportable c).In_ok-early)

pub returns : goal.returns
returns c =
    let a = c.args in
    let m = c.measure-n.ensures.0 in
    let e = gives_text a.scans a.settings a.rates.now a.distortions.now a.text.now (passed (goal.at.returns c).In_ok-early) (omega (arith, m, c.if-text-n.false)) m c.put_all.ensures in
    record { result_value = e.0; text_after = e.1 }
