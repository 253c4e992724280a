-- Document 01, "Tables", with the weights of document 02, [5]. Assumes nothing.
use Rattle.std.specs.Prelude.{◌≡◌, ◌≢◌, List, cond, ℕ, zero, suc, ◌+◌, ◌-◌, ◌*◌, ◌/◌, ◌<◌, ltb, length, get_or}
use Rattle.criteria.specs.Choice.{Problem}
use Rattle.tables.specs.Limits.{forbidden}
use Rattle.tables.specs.Series.{Series, problem}
use Rattle.tables.specs.Law.{Law, Follows, law_of}

-- "Each table has exactly Q + (N - 1)Q² cells"
abbrev pub cells : ℕ → ℕ → ℕ
cells N Q = Q + (N - 1) * (Q * Q)

-- "scratch N × Q": the bytes that a planning call borrows for its choices
unfoldable pub scratch_need : ℕ → ℕ → ℕ
scratch_need N Q = N * Q

-- "Scan 0, setting q: cell q. Scan i from 1, previous setting p, setting q: cell Q + (i - 1)Q² + pQ + q."
abbrev pub cell : ℕ → ℕ → ℕ → ℕ → ℕ
cell Q zero p q = q
cell Q (suc i) p q = Q + i * (Q * Q) + p * Q + q

-- where the cells of scan i start; those of the next start where they end
abbrev pub scan_start : (Q i : ℕ) → ℕ
scan_start Q zero = 0
scan_start Q (suc i) = Q + i * (Q * Q)

-- the scan of cell k
unfoldable pub scan_of : (Q k : ℕ) → ℕ
scan_of Q k = cond (ltb k Q) 0 (1 + (k - Q) / (Q * Q))

-- document 02, [5]: "one weight of 0 to 255 per scan", "a lent slice of N"
pub record Table : Type 1 where
  pub N : ℕ
  pub Q : ℕ
  pub law : Law
  pub rates : List ℕ
  pub distortions : List ℕ
  pub weights : List ℕ

-- the cell of a scan, read from one of the two tables
abbrev pub rate_at : Table → ℕ → ℕ → ℕ → ℕ
rate_at t i p q = get_or t.rates (cell t.Q i p q) 0

abbrev pub distortion_at : Table → ℕ → ℕ → ℕ → ℕ
distortion_at t i p q = get_or t.distortions (cell t.Q i p q) 0

abbrev pub weight_at : Table → ℕ → ℕ
weight_at t i = get_or t.weights i 0

-- "uses no forbidden cell and keeps the law". Document 02, [5]: "Total distortion, floor and multiplier use weight times distortion. Peak and
-- ceilings use the unweighted cell".
abbrev pub series : Table → Series
series t = record {
  scans = t.N;
  settings = t.Q;
  may = λ i p q. (rate_at t i p q ≢ forbidden) × Follows t.law i p q;
  rate = rate_at t;
  distortion = λ i p q. weight_at t i * distortion_at t i p q;
  height = distortion_at t;
}

abbrev pub planning : Table → Problem
planning t = problem (series t)

-- a table under a law
abbrev pub table_under : Law → (N Q : ℕ) (rates distortions weights : List ℕ) → Table
table_under law N Q rates distortions weights =
    record { N = N; Q = Q; law = law; rates = rates; distortions = distortions; weights = weights }

-- .. given by its number
abbrev pub table : (N Q law : ℕ) (rates distortions weights : List ℕ) → Table
table N Q law rates distortions weights = table_under (law_of law) N Q rates distortions weights

-- document 02, [5]: "All weights 1"
abbrev pub AllOne : List ℕ → Type 0
AllOne weights = (i : ℕ) → i < length weights → get_or weights i 0 ≡ 1
