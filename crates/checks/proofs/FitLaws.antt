-- What the checks have passed is a legal table, under any law. Assumes nothing.
use Prim.Native.Nat.{ℕ}
use Rattle.tables.specs.Tables.{Table}
use Rattle.tables.specs.Legal.{LegalTable}
use Rattle.checks.specs.Fit.{Fit}

pub fit_legal : {t : Table} {room : ℕ} → Fit t.N t.Q t.rates t.distortions t.weights room → LegalTable t
fit_legal f = record {
  some_scans = f.some_scans;
  scans = f.scans;
  some_settings = f.some_settings;
  settings = f.settings;
  rates = f.rates_long;
  distortions = f.distortions_long;
  weights = f.weights_long;
  legal = f.legal;
}
