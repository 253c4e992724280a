-- What a scan and the whole program leave. No promise of a call cites it. Assumes nothing.
use Rattle.std.specs.Prelude.{◌≡◌, List, ℕ, ◌+◌, ◌*◌, ◌≤◌, ◌<◌, length, get_or}
use Rattle.tables.specs.Law.{Law}
use Rattle.tables.specs.Tables.{Table, series}
use Rattle.within.specs.Ways.{no_way, Ahead}
use Rattle.within.specs.Rows.{Untouched}

-- where a running total stands: after setting p with b left, in the rows of w places each from `base` on
abbrev pub total_at : (w base : ℕ) → List ℕ → ℕ → ℕ → ℕ
total_at w base totals p b = get_or totals (base + (p * w + b)) 0

-- where a choice stands: of scan i, after setting p with b left
abbrev pub choice_at : (Q w : ℕ) → List ℕ → ℕ → ℕ → ℕ → ℕ
choice_at Q w choices i p b = get_or choices (i * (Q * w) + (p * w + b)) 0

-- v is the least offer of the settings that may follow, and `first` the lowest that makes it; where none is below no_way, v is no_way
pub record PickAmong (may : ℕ → Type 0) (x : ℕ → ℕ) (v first : ℕ) : Type 0 where
  pub capped : v ≤ no_way
  pub least : (q : ℕ) → may q → v ≤ x q
  pub found : v < no_way → may first × (v ≡ x first)
  pub before : v < no_way → (q : ℕ) → may q → q < first → v < x q

-- a scan is done for the first m settings before it: each place has the least offer of the settings that the law lets follow; only its own
-- rows of totals, from `here` on, and of choices, from `at` on, are changed
pub record Scanned (law : Law) (x : ℕ → ℕ → ℕ → ℕ) (Q w m here at : ℕ) (totals choices totals' choices' : List ℕ) : Type 0 where
  pub pick : (p : ℕ) → p < m → (b : ℕ) → b < w →
      PickAmong (λ q. (q < Q) × law p q) (x p b) (get_or totals' (here + (p * w + b)) 0) (get_or choices' (at + (p * w + b)) 0)
  pub totals_long : length totals' ≡ length totals
  pub choices_long : length choices' ≡ length choices
  pub totals_rest : Untouched here (m * w) totals totals'
  pub choices_rest : Untouched at (m * w) choices choices'

-- the program is done: what lies ahead of scan 0, with the row of totals from `base` on, and nothing changed past the rows of two scans and
-- the choices of all
pub record Filled (t : Table) (w base : ℕ) (totals choices totals' choices' : List ℕ) : Type 0 where
  pub ahead : Ahead (series t) w 1 t.N 0 (choice_at t.Q w choices') (total_at w base totals')
  pub inside : base + w ≤ length totals'
  pub totals_long : length totals' ≡ length totals
  pub choices_long : length choices' ≡ length choices
  pub totals_rest : (k : ℕ) → 2 * (t.Q * w) ≤ k → get_or totals' k 0 ≡ get_or totals k 0
  pub choices_rest : (k : ℕ) → t.N * (t.Q * w) ≤ k → get_or choices' k 0 ≡ get_or choices k 0
