-- A square filled row by row. Assumes nothing.
use mathlib.Core.Path.{◌≡◌, ◌∙◌}
use mathlib.Core.List.{List, []}
use Prim.Native.Nat.{ℕ, ◌+◌, ◌<◌}
use native.Mathlib.Decide.{ℕ_discrete}
use native.Mathlib.Omega.{arith}
use lib.ListN.{length, get_or, set, length-set}
use lib.Seq.{get_or-set_same, get_or-set_other}
use Rattle.trellis.specs.Square.{Sixteen}

-- one row more
module _ (square : List (List ℕ)) (p : ℕ) (row : List ℕ) (s : Sixteen square) (h : p < 16) where
  this : get_or (set square p row) p [] ≡ row
  this = get_or-set_same square p row [] (omega (arith, s.0))

  pub sixteen_more : length row ≡ 16 → Sixteen (set square p row)
  sixteen_more l = (length-set square p row ∙ s.0, λ j g. at j g (ℕ_discrete j p))
    where
      at : (j : ℕ) → j < 16 → Dec (j ≡ p) → length (get_or (set square p row) j []) ≡ 16
      at j g (yes z) = rw (z, this) l
      at j g (no z) = rw (get_or-set_other square p j row [] z) (s.1 j g)

  pub rows_more : (k : ℕ) (x : ℕ → ℕ → ℕ) → ((q : ℕ) → q < k → get_or row q 0 ≡ x p q) →
      ((r : ℕ) → r < p → (q : ℕ) → q < k → get_or (get_or square r []) q 0 ≡ x r q) →
      (r : ℕ) → r < p + 1 → (q : ℕ) → q < k → get_or (get_or (set square p row) r []) q 0 ≡ x r q
  rows_more k x e f r g q l = at (ℕ_discrete r p)
    where
      at : Dec (r ≡ p) → get_or (get_or (set square p row) r []) q 0 ≡ x r q
      at (yes z) = rw (z, this) (e q l)
      at (no z) = rw (get_or-set_other square p r row [] z) (f r (omega arith) q l)
