-- Each of the ways to choose settles its answer. Assumes nothing.
use mathlib.Core.Path.{◌≡◌}
use mathlib.Core.List.{List}
use Prim.Native.Nat.{ℕ}
use native.Mathlib.Omega.{arith}
use Rattle.criteria.specs.Choice.{Problem, Ceiling, Multiplier, Average, AverageFloor, Minmax, TrueBest, Floor}
use Rattle.criteria.proofs.Order.{best_unique}
use Rattle.criteria.proofs.Fraction.{lowest_unique}

pub floor_unique : {n d B D R F G : ℕ} → Floor n d B D R F → Floor n d B D R G → F ≡ G
floor_unique {F = F} {G = G} p q = omega (arith, p.least G q.holds, q.least F p.holds)

-- "At multiplier zero F is D."
pub floor_at_zero : {B D R F : ℕ} → Floor 0 1 B D R F → F ≡ D
floor_at_zero {D = D} f = omega (arith, f.holds, f.least D (omega arith))

module _ (P : Problem) where
  pub ceiling_unique : {X : ℕ} {s t : List ℕ} → Ceiling P X s → Ceiling P X t → s ≡ t
  ceiling_unique = best_unique

  pub multiplier_unique : (n d : ℕ) {s t : List ℕ} → Multiplier P n d s → Multiplier P n d t → s ≡ t
  multiplier_unique n d = best_unique

  pub average_unique : {B n d n' d' : ℕ} {s s' : List ℕ} → Average P B n d s → Average P B n' d' s' →
      (n ≡ n') × (d ≡ d') × (s ≡ s')
  average_unique {B} {n} {d} {n'} {d'} {s} {s'} p q =
      let e = lowest_unique p.lowest q.lowest (omega (
        arith,
        p.least n' d' s' q.lowest.whole q.plan q.fits,
        q.least n d s p.lowest.whole p.plan p.fits,
      )) in
      (e.0, e.1, best_unique (rw (e.0, e.1) at p.plan) q.plan)

  pub true_best_unique : {B : ℕ} {s t : List ℕ} → TrueBest P B s → TrueBest P B t → s ≡ t
  true_best_unique = best_unique

  -- .. with its floor
  pub average_floor_unique : {B n d n' d' F F' : ℕ} {s s' : List ℕ} → Average P B n d s → AverageFloor P B n d s F →
      Average P B n' d' s' → AverageFloor P B n' d' s' F' → F ≡ F'
  average_floor_unique p f q g = let e = average_unique p q in floor_unique (rw (e.0, e.1, e.2) at f) g

  pub minmax_unique : {B X Y : ℕ} {s t : List ℕ} → Minmax P B X s → Minmax P B Y t → (X ≡ Y) × (s ≡ t)
  minmax_unique {B} {X} {Y} {s} {t} p q =
      let e : X ≡ Y = omega (
        arith,
        p.least Y q.some_fits.0 q.some_fits.1 q.some_fits.2,
        q.least X p.some_fits.0 p.some_fits.1 p.some_fits.2,
      ) in
      (e, best_unique (rw e at p.plan) q.plan)
