-- The test of one cell: it tells whether the cell is legal, and what it tells of a weight raised to 1 holds of the weight. Assumes nothing.
use mathlib.Core.Path.{◌≡◌, refl}
use mathlib.Core.Logic.{inl, inr}
use mathlib.Core.Bool.{Bool, true, false, ◌||◌, ◌&&◌}
use Prim.Native.Nat.{ℕ, zero, suc, ◌+◌, ◌*◌, ◌≤◌, min, max}
use native.Mathlib.Nat.{mul-le-mul_right}
use native.Mathlib.Omega.{arith}
use lib.Dec.{eqb, leb}
use borrow.Author.Tests.{eqb-true, eq-eqb, leb-true, le-leb}
use Rattle.laws.proofs.Tests.{both}
use Rattle.tables.specs.Limits.{most_cell, forbidden}
use Rattle.tables.specs.Legal.{LegalRate, LegalDistortion, LegalBeside}
use Rattle.legal.specs.Parts.{heavy_of, IfIllegal}

-- the code's test, of a distortion that was capped just out of range
abbrev pub cell_passes : (heavy rate capped : ℕ) → Bool
cell_passes heavy rate capped = eqb rate forbidden || (leb rate most_cell && leb (heavy * capped) most_cell)

module _ (heavy rate D capped : ℕ) (some : 1 ≤ heavy) (cap : capped ≡ min D (most_cell + 1)) where
  -- a distortion in range is not capped, and one that is capped is out of range as it was
  capped_in : LegalDistortion heavy D → heavy * capped ≤ most_cell
  capped_in l = let e : capped ≡ D = omega (arith, l.0) in rw e l.1

  in_capped : heavy * capped ≤ most_cell → LegalDistortion heavy D
  in_capped g =
      let s = mul-le-mul_right {m = 1} {n = heavy} capped some in
      let e : capped ≡ D = omega arith in
      (omega arith, rw (← e) g)

  pub passed : cell_passes heavy rate capped ≡ true → LegalRate rate × LegalBeside heavy rate D
  passed = of (eqb rate forbidden) refl
    where
      of : (t : Bool) → eqb rate forbidden ≡ t → (t || (leb rate most_cell && leb (heavy * capped) most_cell)) ≡ true → LegalRate rate × LegalBeside heavy rate D
      of true f g = (inr (eqb-true rate forbidden f), inr (eqb-true rate forbidden f))
      of false f g = let b = both _ _ g in (inl (leb-true rate most_cell b.0), inl (in_capped (leb-true (heavy * capped) most_cell b.1)))

  pub passes : LegalRate rate → LegalBeside heavy rate D → cell_passes heavy rate capped ≡ true
  passes (inr f) l = rw (eq-eqb rate forbidden f) refl
  passes (inl m) (inr f) = rw (eq-eqb rate forbidden f) refl
  passes (inl m) (inl l) = rw (le-leb rate most_cell m, le-leb (heavy * capped) most_cell (capped_in l)) (of (eqb rate forbidden))
    where
      of : (t : Bool) → (t || true) ≡ true
      of true = refl
      of false = refl

-- a weight raised to 1 tests the plain distortion where the weight is 0, and is the weight elsewhere
lighter : (w : ℕ) {r D : ℕ} → LegalBeside (heavy_of w) r D → LegalBeside w r D
lighter w {D = D} (inl l) = inl (l.0, omega (arith, l.1, mul-le-mul_right {m = w} {n = max w 1} D (omega arith)))
lighter w (inr e) = inr e

heavier : (w : ℕ) {r D : ℕ} → LegalBeside w r D → LegalBeside (heavy_of w) r D
heavier zero (inl l) = inl (l.0, omega (arith, l.0))
heavier (suc w) (inl l) = let e : max (suc w) 1 ≡ suc w = omega arith in rw e (inl l)
heavier w (inr e) = inr e

pub of_weight : {w r D far kept : ℕ} → IfIllegal (heavy_of w) r D far kept → IfIllegal w r D far kept
of_weight {w} i = record {
  legal = λ l. i.legal (l.0, heavier w l.1);
  illegal = λ n. i.illegal (λ l. n (l.0, lighter w l.1));
}
