-- Legal cells, and the lowest illegal one. The law plays no part: "Cells that the law rules out must still hold legal values." Each cell has
-- the weight of its scan; where a call has no weights, every cell has 1. Assumes nothing.
use Rattle.std.specs.Prelude.{◌≡◌, ◌≢◌, ◌⊎◌, Bool, not, ◌||◌, ◌&&◌, List, ℕ, ◌*◌, ◌≤◌, ◌<◌, eqb, leb, length, get_or}
use Rattle.tables.specs.Limits.{most_scans, most_settings, most_cell, forbidden}
use Rattle.tables.specs.Tables.{Table, cells, scan_of}

-- "A rate is 0 to 1,048,575, or 4,294,967,295"
abbrev pub LegalRate : ℕ → Type 0
LegalRate r = (r ≤ most_cell) ⊎ (r ≡ forbidden)

-- "Every other distortion is 0 to 1,048,575."; document 02, [5]: "7 also covers a weighted cell over 1,048,575"
abbrev pub LegalDistortion : (weight D : ℕ) → Type 0
LegalDistortion weight D = (D ≤ most_cell) × (weight * D ≤ most_cell)

-- "Beside a forbidden rate the distortion may be any value"
abbrev pub LegalBeside : (weight r D : ℕ) → Type 0
LegalBeside weight r D = LegalDistortion weight D ⊎ (r ≡ forbidden)

-- the weight of each cell, by its number: that of its scan
abbrev pub weights_by_scan : (Q : ℕ) → List ℕ → ℕ → ℕ
weights_by_scan Q weights k = get_or weights (scan_of Q k) 0

-- .. where a call has no weights
abbrev pub no_weights : ℕ → ℕ
no_weights k = 1

-- cell k of the two tables, where `weigh` gives the weight of each cell
abbrev pub LegalCell : (weigh : ℕ → ℕ) → List ℕ → List ℕ → ℕ → Type 0
LegalCell weigh rates distortions k = LegalRate (get_or rates k 0) × LegalBeside (weigh k) (get_or rates k 0) (get_or distortions k 0)

-- .. denied, as a test: the rate is neither in range nor the marker, or the rate is not the marker and the distortion, plain or
-- weighed, is out of range
abbrev pub cell_illegal : (weigh : ℕ → ℕ) (rates distortions : List ℕ) → ℕ → Bool
cell_illegal weigh rates distortions k =
    not (leb (get_or rates k 0) most_cell || eqb (get_or rates k 0) forbidden)
    || not ((leb (get_or distortions k 0) most_cell && leb (weigh k * get_or distortions k 0) most_cell) || eqb (get_or rates k 0) forbidden)

abbrev pub AllLegal : (weigh : ℕ → ℕ) → List ℕ → List ℕ → Type 0
AllLegal weigh rates distortions = (k : ℕ) → k < length rates → LegalCell weigh rates distortions k

-- refusal 7, "illegal cell", carries the "lowest illegal cell number"
pub record LowestIllegal (weigh : ℕ → ℕ) (rates distortions : List ℕ) (k : ℕ) : Type 0 where
  pub inside : k < length rates
  pub illegal : LegalCell weigh rates distortions k → ⊥
  pub lowest : (j : ℕ) → j < k → LegalCell weigh rates distortions j

-- a table within document 01's limits, of the exact lengths, with legal cells
pub record LegalTable (t : Table) : Type 0 where
  pub some_scans : 1 ≤ t.N
  pub scans : t.N ≤ most_scans
  pub some_settings : 1 ≤ t.Q
  pub settings : t.Q ≤ most_settings
  pub rates : length t.rates ≡ cells t.N t.Q
  pub distortions : length t.distortions ≡ cells t.N t.Q
  pub weights : length t.weights ≡ t.N
  pub legal : AllLegal (weights_by_scan t.Q t.weights) t.rates t.distortions

-- "Beside a forbidden rate the distortion may be any value and no answer depends on it": D and D' differ there at most
pub record SameShown (rates D D' : List ℕ) : Type 0 where
  pub long : length D ≡ length D'
  pub shown : (k : ℕ) → get_or rates k 0 ≢ forbidden → get_or D k 0 ≡ get_or D' k 0
