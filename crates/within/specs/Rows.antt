-- A row of running totals: for each budget that may be left after one setting, the least of what the settings that follow it offer.
-- No promise of a call cites it. Assumes nothing.
use Rattle.std.specs.Prelude.{◌≡◌, cond, List, ℕ, ◌+◌, ◌-◌, ◌*◌, ◌≤◌, ◌<◌, ltb, length, get_or}
use Rattle.within.specs.Ways.{no_way}

-- what a setting offers where b is left: its distortion with the total that lies ahead of it, or no way where its rate is over b
unfoldable pub offer : (rate distortion : ℕ) (ahead : ℕ → ℕ) → ℕ → ℕ
offer rate distortion ahead b = cond (ltb b rate) no_way (distortion + ahead (b - rate))

-- nothing is changed but n places from `from` on
pub record Untouched (from n : ℕ) (before after : List ℕ) : Type 0 where
  pub same : (k : ℕ) → (from ≤ k → k < from + n → ⊥) → get_or after k 0 ≡ get_or before k 0

-- n cells from `from` on have this value, and the others are as they were
pub record AllPut (from n value : ℕ) (before after : List ℕ) : Type 0 where
  pub put : (j : ℕ) → j < n → get_or after (from + j) 0 ≡ value
  pub long : length after ≡ length before
  pub rest : Untouched from n before after

-- setting q takes n places of a row, totals from `here` on and choices from `at` on, each where it offers less than what stands there
pub record Taken (x : ℕ → ℕ) (q n here at : ℕ) (totals choices totals' choices' : List ℕ) : Type 0 where
  pub total : (j : ℕ) → j < n → get_or totals' (here + j) 0 ≡ cond (ltb (x j) (get_or totals (here + j) 0)) (x j) (get_or totals (here + j) 0)
  pub choice : (j : ℕ) → j < n → get_or choices' (at + j) 0 ≡ cond (ltb (x j) (get_or totals (here + j) 0)) q (get_or choices (at + j) 0)
  pub totals_long : length totals' ≡ length totals
  pub choices_long : length choices' ≡ length choices
  pub totals_rest : Untouched here n totals totals'
  pub choices_rest : Untouched at n choices choices'

-- v is the least of the offers x from lo up to hi, and `first` the lowest setting that makes it; where none is below no_way, v is no_way
pub record Pick (x : ℕ → ℕ) (lo hi v first : ℕ) : Type 0 where
  pub capped : v ≤ no_way
  pub least : (q : ℕ) → lo ≤ q → q < hi → v ≤ x q
  pub found : v < no_way → (lo ≤ first) × (first < hi) × (v ≡ x first)
  pub before : v < no_way → (q : ℕ) → lo ≤ q → q < first → v < x q

-- two runs of n and m places have none in common
pub data Apart (here n ahead m : ℕ) : Type 0 where
  below : here + n ≤ ahead → Apart here n ahead m
  above : ahead + m ≤ here → Apart here n ahead m

-- n places lie in the totals from `here` on, and in the choices from `at` on, apart from the m totals that lie ahead, which are capped
pub record Fits (n m here ahead at : ℕ) (totals choices : List ℕ) : Type 0 where
  pub here_in : here + n ≤ length totals
  pub ahead_in : ahead + m ≤ length totals
  pub at_in : at + n ≤ length choices
  pub apart : Apart here n ahead m
  pub capped : (k : ℕ) → k < m → get_or totals (ahead + k) 0 ≤ no_way

-- what setting q offers, in a row of cells from `from` on in a scan of this weight
abbrev pub row_offer : (weight from w ahead : ℕ) (rates distortions totals : List ℕ) → (b q : ℕ) → ℕ
row_offer weight from w ahead rates distortions totals b q =
    offer (get_or rates (from + q) 0) (weight * get_or distortions (from + q) 0) (λ k. get_or totals (ahead + (q * w + k)) 0) b

-- the row is made: at each place the least of what the settings from lo up to hi offer
pub record RowMade (x : ℕ → ℕ → ℕ) (w lo hi here at : ℕ) (totals choices totals' choices' : List ℕ) : Type 0 where
  pub pick : (b : ℕ) → b < w → Pick (x b) lo hi (get_or totals' (here + b) 0) (get_or choices' (at + b) 0)
  pub totals_long : length totals' ≡ length totals
  pub choices_long : length choices' ≡ length choices
  pub totals_rest : Untouched here w totals totals'
  pub choices_rest : Untouched at w choices choices'
