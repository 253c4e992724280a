-- A sequence along the choices, scan by scan, and what it comes to. Assumes nothing.
use mathlib.Core.Path.{◌≡◌, refl, sym, ap, ◌∙◌}
use mathlib.Core.List.{List, [], ◌∷◌}
use Prim.Native.Nat.{ℕ, zero, suc, ◌+◌, ◌≤◌, ◌<◌, max}
use native.Mathlib.Numerals.{add-one}
use native.Mathlib.Omega.{arith}
use lib.ListN.{get_or, length, drop}
use lib.Seq.{drop-cons}
use Rattle.tables.specs.Series.{Series, Kept, total, largest, problem}
use Rattle.tables.specs.Limits.{most_total}
use Rattle.tables.proofs.Bounds.{Bounded, rate_small, distortion_small}
use Rattle.trellis.specs.Choices.{walk}
use Rattle.walk.specs.Walked.{TotalsOf}
use Rattle.walk.specs.declared.Totals.{Totals}

-- a sequence along the choices is as long as was asked
pub length_walk : (ch : ℕ → ℕ → ℕ) (n i p : ℕ) → length (walk ch n i p) ≡ n
length_walk ch zero i p = refl
length_walk ch (suc n) i p = ap suc (length_walk ch n (suc i) (ch i p))

-- at scan i of a sequence w the choices lead on to what is left of it
pub walk_on : (ch : ℕ → ℕ → ℕ) (n m i p : ℕ) (w : List ℕ) → n ≡ suc m → i < length w → drop i w ≡ walk ch n i p →
    (ch i p ≡ get_or w i 0) × (drop (i + 1) w ≡ walk ch m (i + 1) (ch i p))
walk_on ch n m i p w e l h =
    let g : get_or w i 0 ∷ drop (suc i) w ≡ ch i p ∷ walk ch m (suc i) (ch i p) =
    sym (drop-cons w i 0 l) ∙ h ∙ ap (λ (k : ℕ). walk ch k i p) e in
    rw add-one (cc, cc)

-- of a sequence `whole`, t has the scans before i and s the scans from i on, after setting p
pub record Along (S : Series) (whole : List ℕ) (t : Totals) (i p : ℕ) (s : List ℕ) : Type 0 where
  pub kept : Kept S i p s
  pub rate : t.rate.0 + total S.rate i p s ≡ (problem S).rate whole
  pub distortion : t.distortion.0 + total S.distortion i p s ≡ (problem S).distortion whole
  pub peak : max t.peak (largest S.height i p s) ≡ (problem S).peak whole

-- before scan 0 the totals are zero
pub along_none : (S : Series) (whole : List ℕ) (t : Totals) → Kept S 0 0 whole → t.rate.0 ≡ 0 → t.distortion.0 ≡ 0 → t.peak ≡ 0 →
    Along S whole t 0 0 whole
along_none S whole t k r d h = record { kept = k; rate = omega arith; distortion = omega arith; peak = omega arith }

-- after the last scan they are those of the sequence
pub along_all : {S : Series} {whole : List ℕ} {t : Totals} {i p : ℕ} → Along S whole t i p [] → TotalsOf (problem S) whole t
along_all a = record {
  rate = let e = a.rate in omega arith;
  distortion = let e = a.distortion in omega arith;
  peak = let e = a.peak in omega arith;
}

-- a scan more in t is one less in what is left
pub along_more : {S : Series} {whole : List ℕ} {t t' : Totals} {i p q : ℕ} {s : List ℕ} → Along S whole t i p (q ∷ s) →
    t'.rate.0 ≡ t.rate.0 + S.rate i p q → t'.distortion.0 ≡ t.distortion.0 + S.distortion i p q →
    t'.peak ≡ max t.peak (S.height i p q) → Along S whole t' (suc i) q s
along_more a r d h = record {
  kept = a.kept.2;
  rate = let e = a.rate in omega arith;
  distortion = let e = a.distortion in omega arith;
  peak = let e = a.peak in omega arith;
}

-- with a scan more nothing passes the bound of document 01, "Both sums are at most 1,073,740,800."
pub along_small : {S : Series} → Bounded S → {whole : List ℕ} → (problem S).allowed whole → {t : Totals} {i p q : ℕ} {s : List ℕ} →
    Along S whole t i p (q ∷ s) → (t.rate.0 + S.rate i p q ≤ most_total) × (t.distortion.0 + S.distortion i p q ≤ most_total)
along_small {S} small {whole} ok a =
    (omega (arith, a.rate, rate_small S small whole ok), omega (arith, a.distortion, distortion_small S small whole ok))
