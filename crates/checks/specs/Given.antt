-- What a planning call is lent, and what has passed its checks, as a question, a table and a problem. Assumes nothing.
use Rattle.std.specs.Prelude.{◌≡◌, ℕ}
use Rattle.criteria.specs.Choice.{Problem}
use Rattle.tables.specs.Tables.{Table, table, planning}
use Rattle.checks.specs.declared.lent.Tables.{Tables}
use Rattle.checks.specs.declared.checked.Checked.{Checked}
use Rattle.checks.specs.Planning.{Asked, asking}

-- what is asked of a call that is lent these tables, and buffers of these lengths
abbrev pub asked_of : Tables → (plan scratch : ℕ) → Asked
asked_of t plan scratch = asking t.scans t.settings t.law t.rates.now t.distortions.now t.weights.now plan scratch

-- the table that has passed, and its problem
abbrev pub table_in : Checked → Table
table_in t = table t.scans t.settings t.law t.rates.now t.distortions.now t.weights.now

abbrev pub planning_in : Checked → Problem
planning_in t = planning (table_in t)

-- what was asked of a call whose tables have passed
abbrev pub asked_in : Checked → (plan scratch : ℕ) → Asked
asked_in t plan scratch = asking t.scans t.settings t.law t.rates.now t.distortions.now t.weights.now plan scratch

-- what has passed is what was lent
pub record IsOf (lent : Tables) (t : Checked) : Type 0 where
  pub scans : t.scans ≡ lent.scans
  pub settings : t.settings ≡ lent.settings
  pub law : t.law ≡ lent.law
  pub rates : t.rates.now ≡ lent.rates.now
  pub distortions : t.distortions.now ≡ lent.distortions.now
  pub weights : t.weights.now ≡ lent.weights.now
