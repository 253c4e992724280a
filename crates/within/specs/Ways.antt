-- The ways on from a scan with what is left of a budget. No promise of a call cites it. Assumes nothing.
use Rattle.std.specs.Prelude.{◌≡◌, List, [], ◌∷◌, ℕ, zero, suc, ◌+◌, ◌-◌, ◌≤◌, ◌<◌, length}
use Rattle.tables.specs.Limits.{most_short_budget}
use Rattle.tables.specs.Series.{Series, Kept, total}
use Rattle.keys.specs.OneKey.{Least}

-- 2 ^ 30, which no sequence's distortion comes to: the total where there is no way on
abbrev pub no_way : ℕ
no_way = 1073741824

-- how many budgets may be left: 0 to 4,095
abbrev pub most_left : ℕ
most_left = most_short_budget + 1

-- s is an allowed way on: n settings from scan i, after setting p, whose rates come to at most b
pub record Way (S : Series) (n i p b : ℕ) (s : List ℕ) : Type 0 where
  pub long : length s ≡ n
  pub kept : Kept S i p s
  pub fits : total S.rate i p s ≤ b

-- n settings, from scan i on after setting p with b left, each by its choice; what a setting's rate takes is not left for the next
abbrev pub path : (rate : ℕ → ℕ → ℕ → ℕ) (choice : ℕ → ℕ → ℕ → ℕ) → (n i p b : ℕ) → List ℕ
path rate choice zero i p b = []
path rate choice (suc n) i p b = choice i p b ∷ path rate choice n (suc i) (choice i p b) (b - rate i p (choice i p b))

-- of the m settings that may stand before scan i (before scan 0 one stands for none), with n scans to the end and less than w left: what the
-- least distortion of a way on is, and that the choices lead along the first that has it
pub record Ahead (S : Series) (w m n i : ℕ) (choice : ℕ → ℕ → ℕ → ℕ) (least : ℕ → ℕ → ℕ) : Type 0 where
  pub capped : (p b : ℕ) → p < m → b < w → least p b ≤ no_way
  pub none : (p b : ℕ) → p < m → b < w → least p b ≡ no_way → (t : List ℕ) → Way S n i p b t → ⊥
  pub some : (p b : ℕ) → p < m → b < w → least p b < no_way →
      Least (Way S n i p b) (total S.distortion i p) (path S.rate choice n i p b)
  pub cost : (p b : ℕ) → p < m → b < w → least p b < no_way → least p b ≡ total S.distortion i p (path S.rate choice n i p b)
