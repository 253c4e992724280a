-- `lines::says::says` meets its contract: five fields, and what each holds.
use mathlib.Core.Path.{refl}
use Rattle.lines.proofs.FieldLaws.{fields_at}
use Rattle.lines.proofs.SaidLaws.{no_scan, five_read, other_says}
use Rattle.lines.proofs.says.says.Goals as goal

pub returns-in_err-e : goal.returns-in_err-e
returns-in_err-e c = rw c.from_residual.ensures (other_says _ c.in_err-e.ensures)

pub returns-in_err-scan : goal.returns-in_err-scan
returns-in_err-scan c = rw c.from_residual-in_err-scan.ensures (no_scan _ (fields_at c.in_ok-e.ensures) c.in_err-scan.ensures)

pub returns-in_err-before : goal.returns-in_err-before
returns-in_err-before c =
    rw c.from_residual-in_err-before.ensures
    (five_read _ (fields_at c.in_ok-e.ensures) c.in_ok-scan.ensures c.in_err-before.ensures refl refl refl)

pub returns-in_err-setting : goal.returns-in_err-setting
returns-in_err-setting c =
    rw c.from_residual-in_err-setting.ensures
    (five_read _ (fields_at c.in_ok-e.ensures) c.in_ok-scan.ensures c.in_ok-before.ensures c.in_err-setting.ensures refl refl)

pub returns-in_err-rate : goal.returns-in_err-rate
returns-in_err-rate c =
    rw c.from_residual-in_err-rate.ensures
    (five_read _ (fields_at c.in_ok-e.ensures) c.in_ok-scan.ensures c.in_ok-before.ensures c.in_ok-setting.ensures c.in_err-rate.ensures refl)

pub returns-in_err-distortion : goal.returns-in_err-distortion
returns-in_err-distortion c =
    rw c.from_residual-in_err-distortion.ensures
    (five_read _ (fields_at c.in_ok-e.ensures) c.in_ok-scan.ensures c.in_ok-before.ensures c.in_ok-setting.ensures c.in_ok-rate.ensures c.in_err-distortion.ensures)

pub returns : goal.returns
returns c =
    five_read _ (fields_at c.in_ok-e.ensures) c.in_ok-scan.ensures c.in_ok-before.ensures c.in_ok-setting.ensures c.in_ok-rate.ensures c.in_ok-distortion.ensures
