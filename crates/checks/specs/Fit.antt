-- What a call that has passed the checks 1 to 7 knows, whatever its law. Assumes nothing.
use Rattle.std.specs.Prelude.{◌≡◌, false, List, ℕ, ◌≤◌, ◌<◌, length}
use Rattle.tables.specs.Limits.{most_scans, most_settings}
use Rattle.tables.specs.Tables.{cells, scratch_need}
use Rattle.tables.specs.Legal.{weights_by_scan, cell_illegal, AllLegal}

-- of N, Q, the tables, the weights and the length of the scratch
pub record Fit (N Q : ℕ) (rates distortions weights : List ℕ) (scratch : ℕ) : Type 0 where
  pub some_scans : 1 ≤ N
  pub scans : N ≤ most_scans
  pub some_settings : 1 ≤ Q
  pub settings : Q ≤ most_settings
  pub rates_long : length rates ≡ cells N Q
  pub distortions_long : length distortions ≡ cells N Q
  pub weights_long : length weights ≡ N
  pub legal : AllLegal (weights_by_scan Q weights) rates distortions
  pub room : scratch_need N Q ≤ scratch

-- of their numbers and lengths alone
pub record Sized (N Q : ℕ) (rates distortions weights : List ℕ) : Type 0 where
  pub some_scans : 1 ≤ N
  pub scans : N ≤ most_scans
  pub some_settings : 1 ≤ Q
  pub settings : Q ≤ most_settings
  pub rates_long : length rates ≡ cells N Q
  pub distortions_long : length distortions ≡ cells N Q
  pub weights_long : length weights ≡ N

-- that all cells are legal, said by the test, so that there is one way for it to be so
pub record Lawful (Q : ℕ) (rates distortions weights : List ℕ) : Type 0 where
  pub cell : (k : ℕ) → k < length rates → cell_illegal (weights_by_scan Q weights) rates distortions k ≡ false
