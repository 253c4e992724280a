-- What a choice costs: by its weights where it is open, and no_way where its rate is forbidden. Assumes nothing.
use mathlib.Core.Path.{◌≡◌, refl}
use mathlib.Core.Logic.{◌≢◌, inl, inr}
use mathlib.Core.Bool.{Bool, true, false, cond}
use Prim.Native.Nat.{ℕ, ◌+◌, ◌*◌, ◌≤◌, ◌<◌}
use native.Mathlib.Nat.{mul-le-mul_right}
use native.Mathlib.Omega.{arith}
use lib.Dec.{eqb}
use borrow.Author.Tests.{eqb-false, ne_eqb}
use Rattle.tables.specs.Limits.{most_cell, forbidden}
use Rattle.tables.specs.Legal.{LegalRate}
use Rattle.keys.specs.OneKey.{weight_bound}
use Rattle.least.specs.declared.Rule.{Rule}
use Rattle.least.specs.Row.{Light, no_way, price_of}

-- a product of a weight and a legal cell
pub cell_fits : {w x : ℕ} → w < weight_bound → x ≤ most_cell → w * x ≤ 2251797666201600
cell_fits {w} {x} h g = omega (arith, mul-le-mul_right {m = w} {n = 2147483647} x (omega arith))

module _ (rule : Rule) (rate counted : ℕ) where
  pub open_price : rate ≢ forbidden → price_of rule rate counted ≡ rule.a * counted + rule.b * rate
  unfolding price_of
  open_price n = rw (ne_eqb rate forbidden n) refl

  shut_test : (t : Bool) → eqb rate forbidden ≡ t → cond t no_way (rule.a * counted + rule.b * rate) < no_way → rate ≢ forbidden
  shut_test true e h = absurd (omega arith)
  shut_test false e h = eqb-false rate forbidden e

  -- what costs less than no_way is open
  pub price_open : price_of rule rate counted < no_way → rate ≢ forbidden
  unfolding price_of
  price_open h = shut_test (eqb rate forbidden) refl h

  small_test : Light rule → LegalRate rate → counted ≤ most_cell → (t : Bool) → eqb rate forbidden ≡ t → cond t no_way (rule.a * counted + rule.b * rate) ≤ no_way
  small_test w l m true e = omega arith
  small_test w (inr l) m false e = absurd (eqb-false rate forbidden e l)
  small_test w (inl l) m false e = omega (arith, cell_fits {x = counted} w.0 m, cell_fits {x = rate} w.1 l)

  pub price_small : Light rule → LegalRate rate → counted ≤ most_cell → price_of rule rate counted ≤ no_way
  unfolding price_of
  price_small w l m = small_test w l m (eqb rate forbidden) refl
