-- The search for the least ceiling, by halving. Assumes nothing.
use mathlib.Core.Path.{◌≡◌, refl}
use mathlib.Core.Bool.{Bool, true, false}
use mathlib.Core.List.{List, ◌∷◌}
use Prim.Native.Nat.{ℕ, ◌≤◌}
use native.Mathlib.Omega.{arith}
use Rattle.criteria.specs.Choice.{Problem, Ceiling}
use Rattle.tables.specs.Limits.{most_cell}
use Rattle.tables.specs.Law.{Law}
use Rattle.tables.specs.Tables.{table_under, planning}
use Rattle.walk.specs.declared.Totals.{Totals}
use Rattle.trellis.specs.Choices.{chosen}
use Rattle.checks.specs.Fit.{Fit}
use Rattle.promise.specs.Promise.{totals, IsMinmaxPlan}
use Rattle.seek.specs.Sought.{ThriftyTotals, ThriftyPass}
use Rattle.search.specs.Search.{SomeFits, LeastCeiling}
use Rattle.seek.proofs.SeekLaws.{peak_fits}

-- the least-rate plan's peak is a ceiling under which something fits
pub peak_bound : (law : Law) {N Q room B : ℕ} {rates distortions weights : List ℕ} {t : Totals} → Fit N Q rates distortions weights room →
    ThriftyTotals (planning (table_under law N Q rates distortions weights)) B t → t.peak ≤ most_cell
peak_bound law fit h = omega (arith, h.totals.peak, peak_fits law fit h.plan h.thriftiest.one)

pub thrifty_fits : {P : Problem} {B X : ℕ} {t : Totals} → X ≡ t.peak → ThriftyTotals P B t → SomeFits P B X
thrifty_fits e h = (h.plan, (h.thriftiest.one, omega (arith, h.totals.peak)), h.fits)

-- under the least ceiling the pass finds its plan, which is the minmax plan
pub pass_under : {P : Problem} {N Q B X : ℕ} {before mid after : List ℕ} {found : Bool} → LeastCeiling P N Q B X before mid →
    ThriftyPass P N Q X mid after found → Ceiling P X (chosen Q N after)
pass_under {found = true} l p = p.some refl
pass_under {found = false} l p = absurd (p.none refl l.some_fits.0 l.some_fits.1)

pub minmax_is : {P : Problem} {N Q B X Y : ℕ} {before after s v : List ℕ} → LeastCeiling P N Q B X before after → Ceiling P X s → Y ≡ X →
    v ≡ totals P s → IsMinmaxPlan P B s (Y ∷ v)
minmax_is {X = X} l c e f = record {
  ceiling = X;
  plan = record { some_fits = l.some_fits; least = l.least; plan = c };
  values = rw (e, f);
}
