-- A series of scans, by what one scan may be and costs. Assumes nothing.
use Rattle.std.specs.Prelude.{◌≡◌, List, [], ◌∷◌, ℕ, suc, ◌+◌, ◌≤◌, ◌<◌, max, length}
use Rattle.criteria.specs.Choice.{Problem}

-- "Dependence reaches one scan back": each function takes the scan's number, the setting of the scan before (at scan 0 there is none, and
-- 0 stands in its place) and the scan's setting. `distortion` is what counts, `height` what the peak is the largest of.
pub record Series : Type 1 where
  pub scans : ℕ
  pub settings : ℕ
  pub may : ℕ → ℕ → ℕ → Type 0
  pub rate : ℕ → ℕ → ℕ → ℕ
  pub distortion : ℕ → ℕ → ℕ → ℕ
  pub height : ℕ → ℕ → ℕ → ℕ

-- "settings below Q, uses no forbidden cell and keeps the law", from scan i on, after setting p
abbrev pub Kept : Series → ℕ → ℕ → List ℕ → Type 0
Kept S i p [] = Unit {0}
Kept S i p (q ∷ s) = (q < S.settings) × S.may i p q × Kept S (suc i) q s

-- "the sum of its .. cells"
abbrev pub total : (ℕ → ℕ → ℕ → ℕ) → ℕ → ℕ → List ℕ → ℕ
total f i p [] = 0
total f i p (q ∷ s) = f i p q + total f (suc i) q s

-- "the largest .. cell"
abbrev pub largest : (ℕ → ℕ → ℕ → ℕ) → ℕ → ℕ → List ℕ → ℕ
largest f i p [] = 0
largest f i p (q ∷ s) = max (f i p q) (largest f (suc i) q s)

-- s is an allowed way on: n settings from scan i, after setting p, whose rates come to at most b
pub record Way (S : Series) (n i p b : ℕ) (s : List ℕ) : Type 0 where
  pub long : length s ≡ n
  pub kept : Kept S i p s
  pub fits : total S.rate i p s ≤ b

-- "A sequence is allowed when it has N settings below Q, uses no forbidden cell and keeps the law. Its rate is the sum of its rate cells,
-- its distortion the sum of its distortion cells, its peak the largest distortion cell."
abbrev pub problem : Series → Problem
problem S = record {
  allowed = λ s. (length s ≡ S.scans) × Kept S 0 0 s;
  rate = total S.rate 0 0;
  distortion = total S.distortion 0 0;
  peak = largest S.height 0 0;
}

-- the last setting of a sequence; p where it has none
abbrev pub last_of : ℕ → List ℕ → ℕ
last_of p [] = p
last_of p (q ∷ s) = last_of q s
