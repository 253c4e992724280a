-- What a search for the average plan knows: where its plans come from, and what it ends with. Assumes nothing.
use Rattle.std.specs.Prelude.{◌≡◌, List, ℕ, ◌≤◌, ◌<◌}
use Rattle.criteria.specs.Choice.{Problem, Multiplier, cost}
use Rattle.criteria.specs.Passes.{Thriftiest}

module _ (P : Problem) where
  -- why no multiplier below n/d has a plan that fits B: n is zero, or an allowed sequence over B ties with the plan
  pub data Certificate (n d B : ℕ) (s : List ℕ) : Type 0 where
    at_zero : n ≡ 0 → Certificate n d B s
    tied : (t : List ℕ) → P.allowed t → B < P.rate t → cost P n d t ≡ cost P n d s → Certificate n d B s

  -- where a plan of the search comes from
  pub data Origin (x : List ℕ) : Type 0 where
    thrifty : Thriftiest P x → Origin x
    planned : (n d : ℕ) → 1 ≤ d → Multiplier P n d x → Origin x

  -- what the search ends with: a plan at n/d that fits B, and why no lower multiplier's does
  pub record Ended (B n d : ℕ) (s : List ℕ) : Type 0 where
    pub whole : 1 ≤ d
    pub plan : Multiplier P n d s
    pub fits : P.rate s ≤ B
    pub certificate : Certificate n d B s
