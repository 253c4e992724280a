-- The order among sequences, and the best of some sequences. Assumes nothing.
use Rattle.std.specs.Prelude.{◌≡◌, List, [], ◌∷◌, ℕ, ◌<◌}

-- a is lower than b, or the two are equal and P decides
pub data Then (a b : ℕ) (P : Type 0) : Type 0 where
  lower : a < b → Then a b P
  tie : a ≡ b → P → Then a b P

-- "First" among sequences: at the earliest place where two differ, the lower setting wins. (Sequences of one length are compared; a
-- sequence counts as first against itself.)
abbrev pub First : List ℕ → List ℕ → Type 0
First [] t = Unit {0}
First (a ∷ s) [] = ⊥
First (a ∷ s) (b ∷ t) = Then a b (First s t)

-- "among .. : least k₁, then least k₂, then first": s is one of the candidates, and against every other one it is so
pub record Best (candidate : List ℕ → Type 0) (k₁ k₂ : List ℕ → ℕ) (s : List ℕ) : Type 0 where
  pub one : candidate s
  pub ahead : (t : List ℕ) → candidate t → Then (k₁ s) (k₁ t) (Then (k₂ s) (k₂ t) (First s t))
