-- Closed cells: an open choice keeps its rate and counts what it weighs, a shut one is forbidden, and what counts is small. Assumes nothing.
use mathlib.Core.Path.{◌≡◌, refl}
use mathlib.Core.Logic.{◌≢◌, inl, inr}
use mathlib.Core.Bool.{Bool, true, false, cond}
use mathlib.Core.List.{List}
use Prim.Native.Nat.{ℕ, ◌+◌, ◌*◌, ◌≤◌, ◌<◌}
use native.Mathlib.Omega.{arith}
use lib.Dec.{eqb}
use borrow.Author.Tests.{eqb-false, ltb-false, eq-eqb, ne_eqb, le-ltb}
use Rattle.laws.proofs.Tests.{neither}
use Rattle.laws.proofs.Lists.{part_inside}
use Rattle.tables.specs.Limits.{most_cell, forbidden}
use Rattle.tables.specs.Legal.{LegalRate, LegalBeside}
use Rattle.trellis.specs.Square.{shut_by, closed_rate, counted_of, CellsFit}

module _ (ceiling rate plain : ℕ) where
  -- the test, of an open choice and back
  stays_open : rate ≢ forbidden → plain ≤ ceiling → shut_by ceiling rate plain ≡ false
  stays_open n h = rw (ne_eqb rate forbidden n, le-ltb ceiling plain h) refl

  is_open : shut_by ceiling rate plain ≡ false → (rate ≢ forbidden) × (plain ≤ ceiling)
  is_open e = let b = neither _ _ e in (eqb-false rate forbidden b.0, ltb-false ceiling plain b.1)

  pub open_rate : rate ≢ forbidden → plain ≤ ceiling → closed_rate ceiling rate plain ≡ rate
  unfolding closed_rate
  open_rate n h = rw (stays_open n h) refl

  pub open_counted : (w : ℕ) → rate ≢ forbidden → plain ≤ ceiling → counted_of w ceiling rate plain ≡ w * plain
  unfolding counted_of
  open_counted w n h = rw (stays_open n h) refl

  -- a rate that is not forbidden is that of an open choice
  pub closed_open : closed_rate ceiling rate plain ≢ forbidden → (rate ≢ forbidden) × (plain ≤ ceiling)
  unfolding closed_rate
  closed_open = of (shut_by ceiling rate plain) refl
    where
      of : (t : Bool) → shut_by ceiling rate plain ≡ t → cond t forbidden rate ≢ forbidden → (rate ≢ forbidden) × (plain ≤ ceiling)
      of true e n = absurd (n refl)
      of false e n = is_open e

  pub closed_legal : LegalRate rate → LegalRate (closed_rate ceiling rate plain)
  unfolding closed_rate
  closed_legal l = of (shut_by ceiling rate plain)
    where
      of : (t : Bool) → LegalRate (cond t forbidden rate)
      of true = inr refl
      of false = l

  -- a closed rate tells whether the choice is shut
  pub closed_tells : eqb (closed_rate ceiling rate plain) forbidden ≡ shut_by ceiling rate plain
  unfolding closed_rate
  closed_tells = of (shut_by ceiling rate plain) refl
    where
      of : (t : Bool) → shut_by ceiling rate plain ≡ t → eqb (cond t forbidden rate) forbidden ≡ t
      of true e = eq-eqb forbidden forbidden refl
      of false e = (neither _ _ e).0

  -- what counts is small
  pub product_small : (w : ℕ) → LegalBeside w rate plain → w * cond (shut_by ceiling rate plain) 0 plain ≤ most_cell
  product_small w l = of l (shut_by ceiling rate plain) refl
    where
      of : LegalBeside w rate plain → (t : Bool) → shut_by ceiling rate plain ≡ t → w * cond t 0 plain ≤ most_cell
      of l true e = omega arith
      of (inl h) false e = h.1
      of (inr f) false e = absurd ((is_open e).0 f)

  pub counted_small : (w : ℕ) → LegalBeside w rate plain → counted_of w ceiling rate plain ≤ most_cell
  unfolding counted_of
  counted_small w l = product_small w l

-- a row of a square that fits
pub row_fits : {weight at k from p : ℕ} {rates distortions : List ℕ} → CellsFit weight at (k * k) rates distortions → p < k → from ≡ at + p * k →
    CellsFit weight from k rates distortions
row_fits {weight} {at} {k} {from} {p} {rates} {distortions} f h e = record {
  in_rates = omega (arith, f.in_rates, part_inside k {j = p} {m = k} h);
  in_distortions = omega (arith, f.in_distortions, part_inside k {j = p} {m = k} h);
  legal = λ q g.
      let z : from + q ≡ at + (p * k + q) = omega arith in
      rw z (f.legal (p * k + q) (omega (arith, part_inside k {j = p} {m = k} h)));
}
