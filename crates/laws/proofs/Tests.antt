-- From the code's tests to the words of definitions and back. Assumes nothing.
use mathlib.Core.Path.{◌≡◌, refl}
use mathlib.Core.Bool.{Bool, true, false, not, ◌&&◌, ◌||◌}
use Prim.Native.Nat.{ℕ, ◌≤◌, ◌<◌}
use native.Mathlib.Omega.{arith}
use lib.Dec.{ltb}
use borrow.Author.Tests.{ltb-true, ltb-false}

-- 0 is not 1: what contradicting clauses of a definition by cases come to
pub never : {A : Type 0} → ◌≡◌ {A = ℕ} 0 1 → A
never e = absurd (omega arith)

-- both of two tests hold
pub both : (s t : Bool) → (s && t) ≡ true → (s ≡ true) × (t ≡ true)
both true t e = (refl, e)
both false t e = never cc

-- neither of two tests holds
pub neither : (s t : Bool) → (s || t) ≡ false → (s ≡ false) × (t ≡ false)
neither true t e = never cc
neither false t e = (refl, e)

-- a test and its denial do not both hold
pub clash : {t : Bool} → not t ≡ true → t ≡ true → ⊥
clash {t} e f = let z : false ≡ true = (rw f at e) in never cc

-- what holds before j and from j on holds
pub cases : {P : Type 0} (i j : ℕ) → (i < j → P) → (j ≤ i → P) → P
cases {P} i j a b = of (ltb i j) refl
  where
    of : (t : Bool) → ltb i j ≡ t → P
    of true h = a (ltb-true i j h)
    of false h = b (ltb-false i j h)
