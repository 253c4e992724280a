-- A cell's test is its legality. Assumes nothing.
use mathlib.Core.Path.{◌≡◌, refl}
use mathlib.Core.Logic.{◌⊎◌, inl, inr}
use mathlib.Core.Bool.{Bool, true, false, ◌||◌, ◌&&◌}
use mathlib.Core.List.{List}
use Prim.Native.Nat.{ℕ, ◌*◌}
use lib.Dec.{eqb, leb}
use lib.ListN.{get_or}
use borrow.Author.Tests.{leb-true, eqb-true, le-leb, eq-eqb, not-false}
use Rattle.laws.proofs.Tests.{both, neither}
use Rattle.tables.specs.Limits.{most_cell, forbidden}
use Rattle.tables.specs.Legal.{LegalDistortion, LegalCell, cell_illegal}

-- something that has a test, or a forbidden rate: as a test
test_holds : {A : Type 0} {t : Bool} (r f : ℕ) → (A → t ≡ true) → A ⊎ (r ≡ f) → (t || eqb r f) ≡ true
test_holds r f g (inl a) = rw (g a) refl
test_holds {t = t} r f g (inr e) = rw (eq-eqb r f e) (of t)
  where
    of : (t : Bool) → (t || true) ≡ true
    of true = refl
    of false = refl

test_true : {A : Type 0} {t : Bool} (r f : ℕ) → (t ≡ true → A) → (t || eqb r f) ≡ true → A ⊎ (r ≡ f)
test_true {A} {t} r f g = of t g
  where
    of : (t : Bool) → (t ≡ true → A) → (t || eqb r f) ≡ true → A ⊎ (r ≡ f)
    of true g e = inl (g refl)
    of false g e = inr (eqb-true r f e)

-- a distortion in range, plain and weighed
range_holds : (w D : ℕ) → LegalDistortion w D → (leb D most_cell && leb (w * D) most_cell) ≡ true
range_holds w D l = rw (le-leb D most_cell l.0, le-leb (w * D) most_cell l.1) refl

range_true : (w D : ℕ) → (leb D most_cell && leb (w * D) most_cell) ≡ true → LegalDistortion w D
range_true w D e = let b = both _ _ e in (leb-true D most_cell b.0, leb-true (w * D) most_cell b.1)

module _ (weigh : ℕ → ℕ) (rates distortions : List ℕ) where
  -- a legal cell passes
  pub legal_passes : (k : ℕ) → LegalCell weigh rates distortions k → cell_illegal weigh rates distortions k ≡ false
  legal_passes k l =
      rw (
        test_holds (get_or rates k 0) forbidden (le-leb (get_or rates k 0) most_cell) l.0,
        test_holds (get_or rates k 0) forbidden (range_holds (weigh k) (get_or distortions k 0)) l.1,
      ) refl

  -- one that passes is legal
  pub passed_legal : (k : ℕ) → cell_illegal weigh rates distortions k ≡ false → LegalCell weigh rates distortions k
  passed_legal k e =
      let b = neither _ _ e in (
        test_true (get_or rates k 0) forbidden (leb-true (get_or rates k 0) most_cell) (not-false _ b.0),
        test_true (get_or rates k 0) forbidden (range_true (weigh k) (get_or distortions k 0)) (not-false _ b.1),
      )

  -- one that is not fails
  pub illegal_fails : (k : ℕ) → (LegalCell weigh rates distortions k → ⊥) → cell_illegal weigh rates distortions k ≡ true
  illegal_fails k n = of (cell_illegal weigh rates distortions k) (passed_legal k)
    where
      of : (t : Bool) → (t ≡ false → LegalCell weigh rates distortions k) → t ≡ true
      of true g = refl
      of false g = absurd (n (g refl))
