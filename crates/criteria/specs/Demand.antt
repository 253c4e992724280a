-- Demand 3: what an average plan s at budget B, with its multiplier n/d and its floor F, proves. Assumes nothing.
use Rattle.std.specs.Prelude.{List, ℕ, ◌+◌, ◌-◌, ◌*◌, ◌≤◌}
use Rattle.criteria.specs.Choice.{Problem, InBudget, Multiplier, Floor}

pub record Demand (P : Problem) (B n d F : ℕ) (s : List ℕ) : Type 0 where
  -- no allowed sequence within B has a distortion below F
  pub floor : (t : List ℕ) → InBudget P B t → F ≤ P.distortion t
  -- d × D is at most d × D' + n × (B - R) for every allowed sequence within B, of distortion D'
  pub gap : (t : List ℕ) → InBudget P B t → d * P.distortion s ≤ d * P.distortion t + n * (B - P.rate s)
  -- no multiplier at or above zero proves a higher floor
  pub highest : (n' d' F' : ℕ) (s' : List ℕ) → 1 ≤ d' → Multiplier P n' d' s' →
      Floor n' d' B (P.distortion s') (P.rate s') F' → F' ≤ F
  -- none whose plan fits has less distortion
  pub best : (n' d' : ℕ) (s' : List ℕ) → 1 ≤ d' → Multiplier P n' d' s' → P.rate s' ≤ B → P.distortion s ≤ P.distortion s'
