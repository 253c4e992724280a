-- The totals of a sequence. Assumes nothing.
use Rattle.std.specs.Prelude.{◌≡◌, List, [], ◌∷◌, ℕ}
use Rattle.criteria.specs.Choice.{Problem}
use Rattle.walk.specs.declared.Totals.{Totals}

-- the values of totals in an answer
abbrev pub total_values : Totals → List ℕ
total_values t = t.rate.0 ∷ t.distortion.0 ∷ t.peak ∷ []

-- "Its rate is the sum of its rate cells, its distortion the sum of its distortion cells" (weighed: document 02, [5]), "its peak the largest
-- distortion cell."
pub record TotalsOf (P : Problem) (s : List ℕ) (t : Totals) : Type 0 where
  pub rate : t.rate.0 ≡ P.rate s
  pub distortion : t.distortion.0 ≡ P.distortion s
  pub peak : t.peak ≡ P.peak s
