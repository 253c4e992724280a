-- What the parts of a search leave each other. No promise cites it. Assumes nothing.
use Rattle.std.specs.Prelude.{◌≡◌, Bool, true, false, List, ℕ, ◌+◌, ◌≤◌, ◌<◌, ◌⊎◌}
use Rattle.tables.specs.Limits.{most_term}
use Rattle.tables.specs.Tables.{scratch_need}
use Rattle.criteria.specs.Choice.{Problem, UnderCeiling, Multiplier}
use Rattle.criteria.specs.Found.{Origin, Ended}
use Rattle.trellis.specs.Choices.{chosen}
use Rattle.walk.specs.Walked.{TotalsOf}
use Rattle.walk.specs.declared.Totals.{Totals}
use Rattle.search.specs.declared.slopes.Bracket.{Bracket}
use Rattle.seek.specs.Sought.{Framed}

-- whether the least-rate plan under X fits B
pub record ThriftyFits (P : Problem) (N Q X B : ℕ) (before after : List ℕ) (fits : Bool) : Type 0 where
  pub yes_fits : fits ≡ true → (t : List ℕ) × UnderCeiling P X t × (P.rate t ≤ B)
  pub no_fits : fits ≡ false → (t : List ℕ) → UnderCeiling P X t → B < P.rate t
  pub framed : Framed (scratch_need N Q) before after

-- something under X fits B
abbrev pub SomeFits : Problem → ℕ → ℕ → Type 0
SomeFits P B X = (t : List ℕ) × UnderCeiling P X t × (P.rate t ≤ B)

-- X is the least ceiling for B
pub record LeastCeiling (P : Problem) (N Q B X : ℕ) (before after : List ℕ) : Type 0 where
  pub some_fits : SomeFits P B X
  pub least : (Y : ℕ) (t : List ℕ) → UnderCeiling P Y t → P.rate t ≤ B → X ≤ Y
  pub framed : Framed (scratch_need N Q) before after

-- lo is a plan that fits B and hi one that does not, each by its totals
pub record Bracketed (P : Problem) (B : ℕ) (lo hi : Totals) : Type 0 where
  pub lo_plan : List ℕ
  pub lo_totals : TotalsOf P lo_plan lo
  pub lo_origin : Origin P lo_plan
  pub fits : P.rate lo_plan ≤ B
  pub hi_plan : List ℕ
  pub hi_totals : TotalsOf P hi_plan hi
  pub hi_n : ℕ
  pub hi_d : ℕ
  pub hi_whole : 1 ≤ hi_d
  pub hi_origin : Multiplier P hi_n hi_d hi_plan
  pub over : B < P.rate hi_plan

-- n/d is the slope from hi to lo
pub record SlopeOf (lo hi : Totals) (n d : ℕ) : Type 0 where
  pub fall : lo.distortion.0 ≡ hi.distortion.0 + n
  pub rise : hi.rate.0 ≡ lo.rate.0 + d

-- where the slopes end: the plan at n/d fits B, and n is zero or the plan ties with one over B; n and d are within the multiplier limits
pub record SlopeEnd (P : Problem) (N Q B n d : ℕ) (before after : List ℕ) : Type 0 where
  pub ended : Ended P B n d (chosen Q N after)
  pub small_n : n ≤ most_term
  pub small_d : d ≤ most_term
  pub framed : Framed (scratch_need N Q) before after

-- the plan takes the place of the one on its side of the budget
abbrev pub Narrowed : Bracket → Totals → ℕ → Bracket → Type 0
Narrowed at plan B r =
    ((plan.rate.0 ≤ B) × ((r.lo ≡ plan) × (r.hi ≡ at.hi))) ⊎ ((B < plan.rate.0) × ((r.lo ≡ at.lo) × (r.hi ≡ plan)))
