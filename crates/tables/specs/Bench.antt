-- Document 01, "Bench tables": T, U, and what is claimed of them, P1 to P14. Assumes nothing.
use Rattle.std.specs.Prelude.{◌≡◌, List, [], ◌∷◌, ℕ}
use Rattle.criteria.specs.Choice.{Problem, UnderCeiling, InBudget, Ceiling, Multiplier, Average, AverageFloor, Minmax, TrueBest, NoneWithin}
use Rattle.criteria.specs.Passes.{Passes}
use Rattle.tables.specs.Tables.{Table, table, planning}

-- "Table T: N 2, Q 2, law 0. Rates 10 4 8 3 9 5. Distortions 2 7 3 6 4 10." The weights are 1.
abbrev pub table_t : Table
table_t = table 2 2 0 (10 ∷ 4 ∷ 8 ∷ 3 ∷ 9 ∷ 5 ∷ []) (2 ∷ 7 ∷ 3 ∷ 6 ∷ 4 ∷ 10 ∷ []) (1 ∷ 1 ∷ [])

-- "Table U: N 1, Q 3, law 0. Rates 9 6 2. Distortions 0 8 10."
abbrev pub table_u : Table
table_u = table 1 3 0 (9 ∷ 6 ∷ 2 ∷ []) (0 ∷ 8 ∷ 10 ∷ []) (1 ∷ [])

abbrev pub T : Problem
T = planning table_t

abbrev pub U : Problem
U = planning table_u

-- an average answer: the plan s, its multiplier n/d and its floor F
pub record AverageClaim (P : Problem) (B : ℕ) (s : List ℕ) (n d F : ℕ) : Type 0 where
  pub average : Average P B n d s
  pub floor : AverageFloor P B n d s F

-- s is allowed, of distortion D, and within B
pub record HasWithin (P : Problem) (B : ℕ) (s : List ℕ) (D : ℕ) : Type 0 where
  pub within : InBudget P B s
  pub distortion : P.distortion s ≡ D

-- "Its sequences (rate, distortion, peak)"
pub record HasTotals (P : Problem) (s : List ℕ) (R D X : ℕ) : Type 0 where
  pub allowed : P.allowed s
  pub rate : P.rate s ≡ R
  pub distortion : P.distortion s ≡ D
  pub peak : P.peak s ≡ X

-- P1 to P14, in order
abbrev pub claims : List (Type 0)
claims =
    AverageClaim T 18 (0 ∷ 0 ∷ []) 0 1 5
    ∷ AverageClaim T 17 (0 ∷ 1 ∷ []) 3 5 6
    ∷ AverageClaim T 13 (0 ∷ 1 ∷ []) 3 5 8
    ∷ AverageClaim T 12 (1 ∷ 1 ∷ []) 9 4 11
    ∷ AverageClaim T 9 (1 ∷ 1 ∷ []) 9 4 17
    ∷ NoneWithin T (InBudget T 8)
    ∷ (AverageClaim U 7 (2 ∷ []) 10 7 3 × HasWithin U 7 (1 ∷ []) 8)
    ∷ Ceiling T 7 (0 ∷ 1 ∷ [])
    ∷ Ceiling T 5 (0 ∷ 0 ∷ [])
    ∷ NoneWithin T (UnderCeiling T 2)
    ∷ Minmax T 17 6 (0 ∷ 1 ∷ [])
    ∷ Minmax T 12 10 (1 ∷ 1 ∷ [])
    ∷ Multiplier T 9 4 (1 ∷ 1 ∷ [])
    ∷ Multiplier T 3 5 (0 ∷ 1 ∷ [])
    ∷ []

-- "00 (18, 5, 3); 01 (13, 8, 6); 10 (13, 11, 7); 11 (9, 17, 10)"; and document 02, [13]: "T needs 2 at budget 18, 4 at 17, 4 at 12, and 1 at 8"
abbrev pub more_claims : List (Type 0)
more_claims =
    HasTotals T (0 ∷ 0 ∷ []) 18 5 3
    ∷ HasTotals T (0 ∷ 1 ∷ []) 13 8 6
    ∷ HasTotals T (1 ∷ 0 ∷ []) 13 11 7
    ∷ HasTotals T (1 ∷ 1 ∷ []) 9 17 10
    ∷ Passes T 18 2
    ∷ Passes T 17 4
    ∷ Passes T 12 4
    ∷ Passes T 8 1
    ∷ []

-- document 02, [6]: of U at 7 ("8 is possible"), and of T at 18, 17, 12 and 9
abbrev pub best_claims : List (Type 0)
best_claims =
    TrueBest U 7 (1 ∷ [])
    ∷ TrueBest T 18 (0 ∷ 0 ∷ [])
    ∷ TrueBest T 17 (0 ∷ 1 ∷ [])
    ∷ TrueBest T 12 (1 ∷ 1 ∷ [])
    ∷ TrueBest T 9 (1 ∷ 1 ∷ [])
    ∷ []

-- every claim of a list holds
infixr 40 ◌also◌
pub data Every : List (Type 0) → Type 1 where
  no_more : Every []
  ◌also◌ : {A : Type 0} {l : List (Type 0)} → A → Every l → Every (A ∷ l)
