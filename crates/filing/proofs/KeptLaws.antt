-- Fields that keep their rules: each field of a plan that is given; and an allowed sequence keeps the law, step by step. Assumes nothing.
use mathlib.Core.Path.{◌≡◌, refl}
use mathlib.Core.Bool.{Bool, true, false, ◌&&◌, cond}
use mathlib.Core.List.{List, [], ◌∷◌}
use Prim.Native.Nat.{ℕ, zero, suc, ◌≤◌, ◌<◌}
use native.Mathlib.Nat.{mul-le-mul_left}
use native.Mathlib.Omega.{arith}
use lib.Dec.{eqb, ltb}
use lib.ListN.{length, get_or}
use borrow.Author.Tests.{le-ltb, eq-eqb, eqb-true}
use Rattle.criteria.specs.Choice.{Problem, AverageFloor}
use Rattle.criteria.specs.Fraction.{gcd, Lowest}
use Rattle.criteria.proofs.Fraction.{gcd_is}
use Rattle.tables.specs.Limits.{most_term, most_total, most_cell}
use Rattle.tables.specs.Series.{Kept, total, largest}
use Rattle.tables.specs.Tables.{Table, series}
use Rattle.checks.specs.Checks.{zero_or_over}
use Rattle.rules.specs.Rules.{n_broken, d_broken, rate_broken, peak_broken}
use Rattle.checks.proofs.RangeLaws.{passes_range}

-- a fraction in lowest terms has no common divisor but 1
lowest_one : {n d : ℕ} → Lowest n d → gcd n d ≡ 1
lowest_one {n} {d} l = let r = gcd_is n d in l.common (gcd n d) r.left r.right

-- n and d in their range and in lowest terms keep the rule of n
pub n_kept : (n d : ℕ) → n ≤ most_term → d ≤ most_term → Lowest n d → n_broken 0 n d ≡ false
unfolding n_broken
n_kept n d h g l =
    rw (le-ltb most_term n h, passes_range {most = most_term} {x = d} l.whole g, eq-eqb (gcd n d) 1 (lowest_one l)) refl

-- and the rule of d
pub d_kept : (d : ℕ) → 1 ≤ d → d ≤ most_term → d_broken 0 d ≡ false
unfolding d_broken
d_kept d h g = passes_range {most = most_term} {x = d} h g

-- no n of 0 beside a d of 0 is charged to n, whatever the kind
pub no_n_kept : (kind : ℕ) → n_broken kind 0 0 ≡ false
unfolding n_broken zero_or_over
no_n_kept kind = either (eqb kind 0)
  where
    either : (b : Bool) → cond b false false ≡ false
    either true = refl
    either false = refl

-- a minmax plan has no d
pub no_d_kept : d_broken 1 0 ≡ false
unfolding d_broken
no_d_kept = refl

-- a rate within the limit and the budget
pub rate_kept : (rate B : ℕ) → rate ≤ most_total → rate ≤ B → rate_broken rate B ≡ false
rate_kept rate B h g = rw (le-ltb most_total rate h, le-ltb B rate g) refl

-- a peak within the limit, and within the distortion where the mark is 0
pub peak_kept : (weighted peak distortion : ℕ) → peak ≤ most_cell → (weighted ≡ 0 → peak ≤ distortion) → peak_broken weighted peak distortion ≡ false
peak_kept weighted peak distortion h g = rw (le-ltb most_cell peak h) (of (eqb weighted 0) refl)
  where
    of : (b : Bool) → eqb weighted 0 ≡ b → (b && ltb distortion peak) ≡ false
    of true e = le-ltb distortion peak (g (eqb-true weighted 0 e))
    of false e = refl

-- the floor that a plan within its budget proves is at most the plan's distortion
pub floor_at_most : (P : Problem) (B n d F : ℕ) (s : List ℕ) → AverageFloor P B n d s F → P.rate s ≤ B → F ≤ P.distortion s
floor_at_most P B n d F s f h = f.least (P.distortion s) (omega (arith, mul-le-mul_left n h))

-- the largest of some numbers is at most their sum
pub largest_at_most : (f : ℕ → ℕ → ℕ → ℕ) (i p : ℕ) (s : List ℕ) → largest f i p s ≤ total f i p s
largest_at_most f i p [] = omega arith
largest_at_most f i p (q ∷ s) = omega (arith, largest_at_most f (suc i) q s)

-- in an allowed sequence each setting keeps the law with the one before
pub steps_kept : (t : Table) (i p : ℕ) (s : List ℕ) → Kept (series t) i p s → (j : ℕ) → suc j < length s →
    t.law (get_or s j 0) (get_or s (suc j) 0)
steps_kept t i p [] k j h = absurd (omega arith)
steps_kept t i p (q ∷ []) k j h = absurd (omega arith)
steps_kept t i p (q ∷ r ∷ s) k zero h = k.2.1.1
steps_kept t i p (q ∷ r ∷ s) k (suc j) h = steps_kept t (suc i) q (r ∷ s) k.2 j (omega arith)
