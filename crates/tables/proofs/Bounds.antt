-- The sums of a legal table: both are at most 1,073,740,800, so the multiplier of an average plan keeps within the limits, and no cost
-- there reaches 2 ^ 61. Assumes nothing.
use mathlib.Core.Path.{◌≡◌}
use mathlib.Core.Logic.{◌≢◌, ◌⊎◌, inl, inr}
use mathlib.Core.List.{List, [], ◌∷◌}
use Prim.Native.Nat.{ℕ, suc, ◌*◌, ◌≤◌, ◌<◌, ◌^◌, ◌+◌}
use native.Mathlib.Nat.{mul-le-mul_left, mul-le-mul_right}
use native.Mathlib.Decide.{dec_lt}
use native.Mathlib.Omega.{arith}
use lib.ListN.{length, get_or-eq_default}
use Rattle.criteria.specs.Choice.{Average, cost}
use Rattle.criteria.proofs.Demand.{average_certificate}
use Rattle.criteria.proofs.Small.{average_small}
use Rattle.tables.specs.Limits.{most_scans, most_cell, most_total, most_term, forbidden}
use Rattle.tables.specs.Series.{Series, Kept, total, largest, problem}
use Rattle.tables.specs.Tables.{Table, cell, rate_at, distortion_at, weight_at, series, planning}
use Rattle.tables.specs.Legal.{LegalRate, LegalBeside, weights_by_scan, LegalCell, AllLegal, LegalTable}
use Rattle.tables.proofs.CellLaws.{scan_of_cell}
use Rattle.tables.proofs.Listing.{table_finite}

-- a step between two settings that may be taken is at most c
abbrev pub StepsWithin : (S : Series) → (ℕ → ℕ → ℕ → ℕ) → ℕ → Type 0
StepsWithin S f c = (i p q : ℕ) → p < S.settings → q < S.settings → S.may i p q → f i p q ≤ c

-- a series of a legal table: a step that may be taken has a rate, a plain and a weighted distortion of at most 1,048,575
pub record Bounded (S : Series) : Type 0 where
  pub scans : S.scans ≤ most_scans
  pub some_settings : 1 ≤ S.settings
  pub rate : StepsWithin S S.rate most_cell
  pub distortion : StepsWithin S S.distortion most_cell
  pub height : StepsWithin S S.height most_cell

-- steps of at most c each, before scan n
pub total_before : (S : Series) (f : ℕ → ℕ → ℕ → ℕ) (c n : ℕ) → ((i p q : ℕ) → i < n → p < S.settings → q < S.settings → S.may i p q → f i p q ≤ c) →
    (i p : ℕ) (s : List ℕ) → i + length s ≤ n → p < S.settings → Kept S i p s → total f i p s ≤ length s * c
total_before S f c n h i p [] g l k = omega arith
total_before S f c n h i p (q ∷ s) g l k =
    omega (arith, h i p q (omega arith) l k.0 k.1, total_before S f c n h (suc i) q s (omega arith) k.0 k.2)

-- .. wherever they are taken
pub total_small : (S : Series) (f : ℕ → ℕ → ℕ → ℕ) (c : ℕ) → StepsWithin S f c →
    (i p : ℕ) (s : List ℕ) → p < S.settings → Kept S i p s → total f i p s ≤ length s * c
total_small S f c h i p s l k = total_before S f c (i + length s) (λ j r q g. h j r q) i p s (omega arith) l k

largest_small : (S : Series) (f : ℕ → ℕ → ℕ → ℕ) → StepsWithin S f most_cell →
    (i p : ℕ) (s : List ℕ) → p < S.settings → Kept S i p s → largest f i p s ≤ most_cell
largest_small S f h i p [] l k = omega arith
largest_small S f h i p (q ∷ s) l k = omega (arith, h i p q l k.0 k.1, largest_small S f h (suc i) q s k.0 k.2)

module _ (S : Series) (c : Bounded S) (s : List ℕ) (a : (problem S).allowed s) where
  pub rate_small : (problem S).rate s ≤ most_total
  rate_small = omega (arith, a.0, c.scans, total_small S S.rate most_cell c.rate 0 0 s c.some_settings a.1)

  pub distortion_small : (problem S).distortion s ≤ most_total
  distortion_small = omega (arith, a.0, c.scans, total_small S S.distortion most_cell c.distortion 0 0 s c.some_settings a.1)

  pub peak_small : (problem S).peak s ≤ most_cell
  peak_small = largest_small S S.height c.height 0 0 s c.some_settings a.1

-- past the end of a table nothing stands, so every cell of a legal table is legal, whatever its number
pub legal_anywhere : (weigh : ℕ → ℕ) (rates distortions : List ℕ) → length distortions ≡ length rates → AllLegal weigh rates distortions →
    (k : ℕ) → LegalCell weigh rates distortions k
legal_anywhere weigh rates distortions e l k = by_place (dec_lt k (length rates))
  where
    by_place : Dec (k < length rates) → LegalCell weigh rates distortions k
    by_place (yes h) = l k h
    by_place (no h) = (
      inl (rw (get_or-eq_default rates 0 {n = k} (omega arith)) (omega arith)),
      inl (rw (get_or-eq_default distortions 0 {n = k} (omega arith)) (omega arith, omega arith)),
    )

pub unmarked : {A : Type 0} {r : ℕ} → r ≢ forbidden → A ⊎ (r ≡ forbidden) → A
unmarked n (inl a) = a
unmarked n (inr e) = absurd (n e)

module _ (t : Table) (legal : LegalTable t) where
  -- a cell between two settings, by its scan
  pub legal_at : (i p q : ℕ) → p < t.Q → q < t.Q → LegalRate (rate_at t i p q) × LegalBeside (weight_at t i) (rate_at t i p q) (distortion_at t i p q)
  legal_at i p q h g =
      let c = legal_anywhere (weights_by_scan t.Q t.weights) t.rates t.distortions (omega (arith, legal.rates, legal.distortions)) legal.legal (cell t.Q i p q) in
      (c.0, rw (scan_of_cell t.Q i p q h g) at c.1)

  pub table_small : Bounded (series t)
  table_small = record {
    scans = legal.scans;
    some_settings = legal.some_settings;
    rate = λ i p q h g m. unmarked m.0 (legal_at i p q h g).0;
    distortion = λ i p q h g m. (unmarked m.0 (legal_at i p q h g).1).1;
    height = λ i p q h g m. (unmarked m.0 (legal_at i p q h g).1).0;
  }

  -- "Both sums are at most 1,073,740,800."
  pub totals_bounded : (s : List ℕ) → (planning t).allowed s → ((planning t).rate s ≤ most_total) × ((planning t).distortion s ≤ most_total)
  totals_bounded s a = (rate_small (series t) table_small s a, distortion_small (series t) table_small s a)

  -- at the multiplier limits no cost reaches 2 ^ 61
  pub cost_bounded : (n d : ℕ) → n ≤ most_term → d ≤ most_term → (s : List ℕ) → (planning t).allowed s → cost (planning t) n d s < 2 ^ 61
  cost_bounded n d hn hd s a =
      let b = totals_bounded s a in
      omega (
        arith,
        mul-le-mul_left n b.0,
        mul-le-mul_left d b.1,
      )

  -- n and d of an average plan are within the multiplier limits
  pub average_in_limits : ((p q : ℕ) → Dec (t.law p q)) → {B n d : ℕ} {s : List ℕ} → Average (planning t) B n d s →
      (n ≤ most_term) × (1 ≤ d) × (d ≤ most_term)
  average_in_limits law? {B} {n} {d} {s} a =
      let r = average_small (planning t) a (average_certificate (planning t) (table_finite t law?) a) most_total most_total
      (λ u w. (totals_bounded u w).0) (totals_bounded s a.plan.one).1 (omega arith) in
      (omega (arith, r.0), a.lowest.whole, omega (arith, r.1))

-- a cost within the limits
pub cost_small : {n d D R : ℕ} → n ≤ most_term → d ≤ most_term → D ≤ most_total → R ≤ most_total → d * D + n * R < 2 ^ 61
cost_small {n} {d} {D} {R} hn hd hD hR = omega (
  arith,
  mul-le-mul_left {m = D} {n = most_total} d hD,
  mul-le-mul_right {m = d} {n = most_term} most_total hd,
  mul-le-mul_left {m = R} {n = most_total} n hR,
  mul-le-mul_right {m = n} {n = most_term} most_total hn,
)
