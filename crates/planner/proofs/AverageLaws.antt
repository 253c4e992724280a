-- The average call: the first bracket, the last slope, and the answer. Assumes nothing.
use mathlib.Core.List.{List, [], ◌∷◌}
use Prim.Native.Nat.{ℕ, ◌*◌, ◌/◌, ◌≤◌, ◌<◌, ◌^◌}
use native.Mathlib.Nat.{mul-le-mul_left, mul-le-mul_right}
use native.Mathlib.Omega.{arith}
use Rattle.criteria.specs.Choice.{Problem, Multiplier, Average}
use Rattle.criteria.specs.Fraction.{gcd}
use Rattle.criteria.specs.Found.{Certificate, at_zero, tied, thrifty}
use Rattle.criteria.proofs.Reduce.{average_reduced}
use Rattle.tables.specs.Limits.{most_term, most_total}
use Rattle.trellis.specs.Choices.{chosen}
use Rattle.walk.specs.declared.Totals.{Totals}
use Rattle.walk.specs.Walked.{TotalsOf}
use Rattle.promise.specs.declared.AveragePlan.{AveragePlan}
use Rattle.promise.specs.Promise.{IsAveragePlan}
use Rattle.seek.specs.Sought.{ThriftyTotals}
use Rattle.search.specs.Search.{Bracketed, SlopeEnd}
use Rattle.floor.specs.Reduced.{Reduced}

module _ {P : Problem} where
  -- the least-rate plan and the plan at zero are the first bracket
  pub bracket_first : {B : ℕ} {lo hi : Totals} {z : List ℕ} → ThriftyTotals P B lo → Multiplier P 0 1 z → TotalsOf P z hi → B < hi.rate.0 →
      Bracketed P B lo hi
  bracket_first {z = z} l m h o = record {
    lo_plan = l.plan;
    lo_totals = l.totals;
    lo_origin = thrifty l.thriftiest;
    fits = l.fits;
    hi_plan = z;
    hi_totals = h;
    hi_n = 0;
    hi_d = 1;
    hi_whole = omega arith;
    hi_origin = m;
    over = omega (arith, h.rate);
  }

  -- with a sequence over B the product of n and B is small
  pub budget_fits : {B n d : ℕ} {s : List ℕ} → ((t : List ℕ) → P.allowed t → P.rate t ≤ most_total) → n ≤ most_term → Certificate P n d B s → n * B < 2 ^ 64
  budget_fits {B} {n} small l (at_zero e) = rw e (omega arith)
  budget_fits {B} {n} small l (tied t a over e) =
      omega (arith, mul-le-mul_left {m = B} {n = most_total} n (omega (arith, small t a)), mul-le-mul_right {m = n} {n = most_term} most_total l)

  -- the answer: the average plan at its fraction over the common divisor
  pub answer_is : {B n d : ℕ} {s : List ℕ} {t : Totals} {r : AveragePlan} → Average P B (n / gcd n d) (d / gcd n d) s → Reduced n d B t r → TotalsOf P s t →
      IsAveragePlan P B s (r.n ∷ r.d ∷ r.totals.rate.0 ∷ r.totals.distortion.0 ∷ r.totals.peak ∷ r.floor.0 ∷ [])
  answer_is {B} {n} {d} {s} {t} {r} a f h = record {
    n = r.n;
    d = r.d;
    floor = r.floor.0;
    plan = rw (f.n_is, f.d_is) a;
    proves = rw (← h.rate, ← h.distortion) f.floor;
    values = rw (f.totals, h.rate, h.distortion, h.peak);
  }

  -- where the slopes end, the product is small, and the answer is the average plan
  module _ {N Q B n d : ℕ} {before after : List ℕ} (e : SlopeEnd P N Q B n d before after) where
    pub slope_budget : ((t : List ℕ) → P.allowed t → P.rate t ≤ most_total) → n * B < 2 ^ 64
    slope_budget small = budget_fits small e.small_n e.ended.certificate

    pub slope_answer : {t : Totals} {r : AveragePlan} → Reduced n d B t r → TotalsOf P (chosen Q N after) t →
        IsAveragePlan P B (chosen Q N after) (r.n ∷ r.d ∷ r.totals.rate.0 ∷ r.totals.distortion.0 ∷ r.totals.peak ∷ r.floor.0 ∷ [])
    slope_answer = answer_is (average_reduced P n d B e.ended.whole e.ended.plan e.ended.fits e.ended.certificate)

-- the totals of an allowed sequence are within the limits
pub finished_small : {P : Problem} {s : List ℕ} {t : Totals} → ((u : List ℕ) → P.allowed u → (P.distortion u ≤ most_total) × (P.rate u ≤ most_total)) →
    P.allowed s → TotalsOf P s t → (t.rate.0 ≤ most_total) × (t.distortion.0 ≤ most_total)
finished_small {s = s} small a h = let b = small s a in (omega (arith, h.rate, b.1), omega (arith, h.distortion, b.0))
