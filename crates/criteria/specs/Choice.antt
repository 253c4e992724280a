-- Document 01, "Four ways to choose", and the fifth of document 02, [6], over any problem. Assumes nothing.
use Rattle.std.specs.Prelude.{List, ℕ, ◌+◌, ◌*◌, ◌≤◌}
use Rattle.criteria.specs.Order.{Best}
use Rattle.criteria.specs.Fraction.{Lowest}

-- Which sequences are allowed, and of each its rate, its distortion and its peak.
pub record Problem : Type 1 where
  pub allowed : List ℕ → Type 0
  pub rate : List ℕ → ℕ
  pub distortion : List ℕ → ℕ
  pub peak : List ℕ → ℕ

-- "The floor that any multiplier proves is the least whole F, 0 or more, with d × F + n × B at least d × D + n × R, for its own plan's
-- D and R"
pub record Floor (n d B D R F : ℕ) : Type 0 where
  pub holds : d * D + n * R ≤ d * F + n * B
  pub least : (G : ℕ) → d * D + n * R ≤ d * G + n * B → F ≤ G

module _ (P : Problem) where
  -- "allowed sequences with peak at most X"
  abbrev pub UnderCeiling : ℕ → List ℕ → Type 0
  UnderCeiling X t = P.allowed t × (P.peak t ≤ X)

  -- allowed sequences with rate at most B
  abbrev pub InBudget : ℕ → List ℕ → Type 0
  InBudget B t = P.allowed t × (P.rate t ≤ B)

  -- "Ceiling X: among allowed sequences with peak at most X, least rate, then least distortion, then first"
  abbrev pub Ceiling : ℕ → List ℕ → Type 0
  Ceiling X s = Best (UnderCeiling X) P.rate P.distortion s

  -- "d × distortion + n × rate"
  abbrev pub cost : ℕ → ℕ → List ℕ → ℕ
  cost n d t = d * P.distortion t + n * P.rate t

  -- "Multiplier n/d: among all allowed sequences, least d × distortion + n × rate, then least rate, then first"
  abbrev pub Multiplier : ℕ → ℕ → List ℕ → Type 0
  Multiplier n d s = Best P.allowed (cost n d) P.rate s

  -- "Average, budget B: the least multiplier, over all fractions at or above zero, whose multiplier plan has rate at most B; the answer
  -- gives it in lowest terms, zero as 0/1, with its plan" (n/d is at most n'/d' where n d' is at most n' d)
  pub record Average (B n d : ℕ) (s : List ℕ) : Type 0 where
    pub plan : Multiplier n d s
    pub fits : P.rate s ≤ B
    pub least : (n' d' : ℕ) (s' : List ℕ) → 1 ≤ d' → Multiplier n' d' s' → P.rate s' ≤ B → n * d' ≤ n' * d
    pub lowest : Lowest n d

  -- "the floor .. ; the answer gives its multiplier's"
  abbrev pub AverageFloor : ℕ → ℕ → ℕ → List ℕ → ℕ → Type 0
  AverageFloor B n d s F = Floor n d B (P.distortion s) (P.rate s) F

  -- "Minmax, budget B: the least X for which some allowed sequence has peak at most X and rate at most B; then the ceiling plan for
  -- that X"
  pub record Minmax (B X : ℕ) (s : List ℕ) : Type 0 where
    pub some_fits : (t : List ℕ) × UnderCeiling X t × (P.rate t ≤ B)
    pub least : (Y : ℕ) (t : List ℕ) → UnderCeiling Y t → P.rate t ≤ B → X ≤ Y
    pub plan : Ceiling X s

  -- document 02, [6]: "the true least distortion within B, then least rate, then first"
  abbrev pub TrueBest : ℕ → List ℕ → Type 0
  TrueBest B s = Best (InBudget B) P.distortion P.rate s

  -- refusal 8, "no allowed sequence, whatever the limit"
  abbrev pub NoneAllowed : Type 0
  NoneAllowed = (t : List ℕ) → P.allowed t → ⊥

  -- refusal 9, "allowed sequences exist, none within ceiling or budget": `within` is `UnderCeiling X` or `InBudget B`
  pub record NoneWithin (within : List ℕ → Type 0) : Type 0 where
    pub exist : (t : List ℕ) × P.allowed t
    pub none_within : (t : List ℕ) → within t → ⊥
