-- Ceilings: what a larger one does, and where the least one lies. Assumes nothing.
use mathlib.Core.Path.{◌≡◌}
use mathlib.Core.List.{List}
use Prim.Native.Nat.{ℕ, ◌≤◌}
use native.Mathlib.Nat.{le_refl, le_trans}
use native.Mathlib.Omega.{arith}
use Rattle.criteria.specs.Choice.{Problem, UnderCeiling, Ceiling, Minmax}
use Rattle.criteria.proofs.Order.{then_le}

module _ (P : Problem) where
  -- a larger ceiling never needs more rate (004, Theorem 1)
  pub ceiling_rate_falls : {X Y : ℕ} {s t : List ℕ} → X ≤ Y → Ceiling P X s → Ceiling P Y t → P.rate t ≤ P.rate s
  ceiling_rate_falls {s = s} h p q = then_le (q.ahead s (p.one.0, le_trans p.one.1 h))

  -- the plan of a ceiling fits a budget if anything under the ceiling does
  pub ceiling_fits : {X B : ℕ} {s t : List ℕ} → Ceiling P X s → UnderCeiling P X t → P.rate t ≤ B → P.rate s ≤ B
  ceiling_fits {t = t} p w h = le_trans (then_le (p.ahead t w)) h

  -- the minmax plan fits the budget ..
  pub minmax_fits : {B X : ℕ} {s : List ℕ} → Minmax P B X s → P.rate s ≤ B
  minmax_fits m = ceiling_fits m.plan m.some_fits.1 m.some_fits.2

  -- .. and its peak is X
  pub minmax_peak : {B X : ℕ} {s : List ℕ} → Minmax P B X s → P.peak s ≡ X
  minmax_peak {s = s} m = omega (arith, m.plan.one.1, m.least (P.peak s) s (m.plan.one.0, le_refl (P.peak s)) (minmax_fits m))
