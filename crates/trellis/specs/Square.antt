-- A scan's square, as it is copied. Assumes nothing.
use Rattle.std.specs.Prelude.{◌≡◌, Bool, ◌||◌, cond, List, [], ℕ, ◌+◌, ◌*◌, ◌≤◌, ◌<◌, eqb, ltb, length, get_or}
use Rattle.tables.specs.Limits.{forbidden}
use Rattle.tables.specs.Legal.{LegalBeside}
use Rattle.tables.specs.Tables.{Table, scan_start, weight_at}

-- 16 rows of 16
abbrev pub Sixteen : List (List ℕ) → Type 0
Sixteen square = (length square ≡ 16) × ((p : ℕ) → p < 16 → length (get_or square p []) ≡ 16)

-- a choice that is forbidden, or whose plain distortion cell is over the ceiling
abbrev pub shut_by : (ceiling rate plain : ℕ) → Bool
shut_by ceiling rate plain = eqb rate forbidden || ltb ceiling plain

-- the rate of a choice, forbidden where the choice is shut
unfoldable pub closed_rate : (ceiling rate plain : ℕ) → ℕ
closed_rate ceiling rate plain = cond (shut_by ceiling rate plain) forbidden rate

-- the distortion that counts, in a scan of this weight: where the choice is shut it is taken as 0 before it is weighed
unfoldable pub counted_of : (weight ceiling rate plain : ℕ) → ℕ
counted_of weight ceiling rate plain = weight * cond (shut_by ceiling rate plain) 0 plain

-- both, of cell k of two tables
abbrev pub closed_cell : (ceiling : ℕ) (rates distortions : List ℕ) → ℕ → ℕ
closed_cell ceiling rates distortions k = closed_rate ceiling (get_or rates k 0) (get_or distortions k 0)

abbrev pub counted_cell : (weight ceiling : ℕ) (rates distortions : List ℕ) → ℕ → ℕ
counted_cell weight ceiling rates distortions k = counted_of weight ceiling (get_or rates k 0) (get_or distortions k 0)

-- n cells from one on lie in both tables, and each has a legal distortion in a scan of this weight
pub record CellsFit (weight from n : ℕ) (rates distortions : List ℕ) : Type 0 where
  pub in_rates : from + n ≤ length rates
  pub in_distortions : from + n ≤ length distortions
  pub legal : (q : ℕ) → q < n → LegalBeside weight (get_or rates (from + q) 0) (get_or distortions (from + q) 0)

-- these are the cells of scan i of a table
pub record CellsOf (t : Table) (i weight from : ℕ) (rates distortions : List ℕ) : Type 0 where
  pub rates_are : rates ≡ t.rates
  pub distortions_are : distortions ≡ t.distortions
  pub weighs : weight ≡ weight_at t i
  pub starts : from ≡ scan_start t.Q i
