-- What tables that have passed the checks are known to be. Assumes nothing.
use mathlib.Core.Path.{◌≡◌, refl, sym, subst}
use Prim.Native.Nat.{ℕ, ◌≤◌}
use mathlib.Core.List.{List}
use Rattle.tables.specs.Tables.{scratch_need}
use Rattle.tables.proofs.LegalTests.{passed_legal}
use Rattle.tables.specs.Legal.{weights_by_scan, AllLegal}
use Rattle.checks.specs.declared.checked.Checked.{Checked}
use Rattle.checks.specs.declared.lent.Tables.{Tables}
use Rattle.checks.specs.Planning.{Asked}
use Rattle.checks.specs.Fit.{Fit, Sized, Lawful}
use Rattle.checks.specs.Given.{IsOf, asked_of, asked_in}

-- cells that the test passes are legal, and the other way round
pub all_legal : {Q : ℕ} {rates distortions weights : List ℕ} → Lawful Q rates distortions weights → AllLegal (weights_by_scan Q weights) rates distortions
all_legal {Q} {rates} {distortions} {weights} l k h = passed_legal (weights_by_scan Q weights) rates distortions k (l.cell k h)

-- with the room of a pass they are what a pass asks
pub fit_of : {N Q : ℕ} {rates distortions weights : List ℕ} {room : ℕ} → Sized N Q rates distortions weights → Lawful Q rates distortions weights →
    scratch_need N Q ≤ room → Fit N Q rates distortions weights room
fit_of s l h = record {
  some_scans = s.some_scans;
  scans = s.scans;
  some_settings = s.some_settings;
  settings = s.settings;
  rates_long = s.rates_long;
  distortions_long = s.distortions_long;
  weights_long = s.weights_long;
  legal = all_legal l;
  room = h;
}

-- tables that have passed are what a pass asks
pub fit_in : (t : Checked) {room : ℕ} → scratch_need t.scans t.settings ≤ room → Fit t.scans t.settings t.rates.now t.distortions.now t.weights.now room
fit_in t h = fit_of t.sized t.lawful h

-- what was asked with the tables that were lent is what was asked with those that have passed
pub asked_same : {lent : Tables} {t : Checked} → IsOf lent t → (plan scratch : ℕ) → asked_in t plan scratch ≡ asked_of lent plan scratch
asked_same i plan scratch = rw (i.scans, i.settings, i.law, i.rates, i.distortions, i.weights) refl

-- .. and so is what is so of the one of the other
module _ (F : Asked → Type 0) {lent : Tables} {t : Checked} (i : IsOf lent t) {plan scratch : ℕ} where
  pub of_checked : F (asked_of lent plan scratch) → F (asked_in t plan scratch)
  of_checked h = subst F (sym (asked_same i plan scratch)) h

  pub of_lent : F (asked_in t plan scratch) → F (asked_of lent plan scratch)
  of_lent h = subst F (asked_same i plan scratch) h
