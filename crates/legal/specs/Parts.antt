-- What the parts of the walk ask and leave each other. Assumes nothing.
use Rattle.std.specs.Prelude.{◌≡◌, ℕ, ◌+◌, ◌≤◌, ◌<◌, max}
use Rattle.tables.specs.Limits.{most_scans, most_settings}
use Rattle.tables.specs.Tables.{cells}
use Rattle.tables.specs.Legal.{LegalRate, LegalBeside}

-- a weight has eight bits
abbrev pub weight_limit : ℕ
weight_limit = 256

-- what a cell is tested with: its weight, but at least 1
abbrev pub heavy_of : ℕ → ℕ
heavy_of weight = max weight 1

-- "no cell", in the place of how far into its run a cell stands
abbrev pub no_cell : ℕ
no_cell = 4294967295

-- a run lies in both tables, 32 bits tell its cells from each other and from "no cell", and its scan has a weight
pub record RunWithin (rates_long distortions_long from to weight : ℕ) : Type 0 where
  pub forward : from ≤ to
  pub in_rates : to ≤ rates_long
  pub in_distortions : to ≤ distortions_long
  pub short : to ≤ from + no_cell
  pub light : weight < weight_limit

-- tables of N scans (`judge` has as many scans as weights)
pub record ScansWithin (N Q rates_long distortions_long : ℕ) : Type 0 where
  pub some_scans : 1 ≤ N
  pub scans : N ≤ most_scans
  pub settings : Q ≤ most_settings
  pub rates : rates_long ≡ cells N Q
  pub distortions : distortions_long ≡ cells N Q

-- what is kept of one cell of a scan: how far into its run it stands where it is illegal, otherwise "no cell"
pub record IfIllegal (weight rate distortion far r : ℕ) : Type 0 where
  pub legal : LegalRate rate × LegalBeside weight rate distortion → r ≡ no_cell
  pub illegal : (LegalRate rate × LegalBeside weight rate distortion → ⊥) → r ≡ far
