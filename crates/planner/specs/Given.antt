-- A plan was found and handed over. No promise cites it. Assumes nothing.
use Rattle.std.specs.Prelude.{◌≡◌, List, ◌++◌, ℕ, drop, replicate}
use Rattle.tables.specs.Tables.{scratch_need}
use Rattle.tables.specs.Refusals.{Reply, answered}

-- a plan was found and handed over, with what was answered
pub record Delivered (Plan : List ℕ → List ℕ → Type 0) (N Q : ℕ) (plan scratch : List ℕ) (reply : Reply) (plan' scratch' : List ℕ) : Type 0 where
  pub settings : List ℕ
  pub values : List ℕ
  pub is_plan : Plan settings values
  pub replied : reply ≡ answered values
  pub handed : plan' ≡ settings ++ drop N plan
  pub wiped : scratch' ≡ replicate (scratch_need N Q) 0 ++ drop (scratch_need N Q) scratch
