-- Two problems with the same allowed sequences and, on those, the same totals have the same plans and the same refusals. Assumes nothing.
use mathlib.Core.Path.{◌≡◌, sym}
use mathlib.Core.List.{List}
use Prim.Native.Nat.{ℕ, ◌≤◌}
use native.Mathlib.Omega.{arith}
use Rattle.criteria.specs.Order.{Best}
use Rattle.criteria.specs.Choice.{Problem, UnderCeiling, InBudget, Ceiling, cost, Multiplier, Average, AverageFloor, Minmax, TrueBest, NoneAllowed, NoneWithin}

pub record Agree (P P' : Problem) : Type 0 where
  pub to : (t : List ℕ) → P.allowed t → P'.allowed t
  pub from : (t : List ℕ) → P'.allowed t → P.allowed t
  pub rate : (t : List ℕ) → P.allowed t → P.rate t ≡ P'.rate t
  pub distortion : (t : List ℕ) → P.allowed t → P.distortion t ≡ P'.distortion t
  pub peak : (t : List ℕ) → P.allowed t → P.peak t ≡ P'.peak t

pub agree_sym : {P P' : Problem} → Agree P P' → Agree P' P
agree_sym h = record {
  to = h.from;
  from = h.to;
  rate = λ t a. sym (h.rate t (h.from t a));
  distortion = λ t a. sym (h.distortion t (h.from t a));
  peak = λ t a. sym (h.peak t (h.from t a));
}

-- the best of the same candidates by the same keys
pub best_same : {C C' : List ℕ → Type 0} {k₁ k₁' k₂ k₂' : List ℕ → ℕ} {s : List ℕ} → ((t : List ℕ) → C t → C' t) → ((t : List ℕ) → C' t → C t) →
    ((t : List ℕ) → C t → k₁ t ≡ k₁' t) → ((t : List ℕ) → C t → k₂ t ≡ k₂' t) → Best C k₁ k₂ s → Best C' k₁' k₂' s
best_same {s = s} to from e₁ e₂ b = record {
  one = to s b.one;
  ahead = λ t c. rw (← (e₁ s b.one), ← (e₁ t (from t c)), ← (e₂ s b.one), ← (e₂ t (from t c))) (b.ahead t (from t c));
}

module _ {P P' : Problem} (h : Agree P P') where
  under_ceiling : (X : ℕ) (t : List ℕ) → UnderCeiling P X t → UnderCeiling P' X t
  under_ceiling X t w = (h.to t w.0, omega (arith, h.peak t w.0))

  in_budget : (B : ℕ) (t : List ℕ) → P.allowed t → P.rate t ≤ B → P'.rate t ≤ B
  in_budget B t a g = omega (arith, h.rate t a)

  pub cost_agrees : (n d : ℕ) (t : List ℕ) → P.allowed t → cost P n d t ≡ cost P' n d t
  cost_agrees n d t a = rw (h.rate t a, h.distortion t a)

  pub multiplier_agrees : (n d : ℕ) {s : List ℕ} → Multiplier P n d s → Multiplier P' n d s
  multiplier_agrees n d = best_same h.to h.from (cost_agrees n d) h.rate

module _ {P P' : Problem} (h : Agree P P') where
  pub ceiling_agrees : (X : ℕ) {s : List ℕ} → Ceiling P X s → Ceiling P' X s
  ceiling_agrees X =
      best_same (under_ceiling h X) (under_ceiling (agree_sym h) X) (λ t w. h.rate t w.0) (λ t w. h.distortion t w.0)

  pub true_best_agrees : (B : ℕ) {s : List ℕ} → TrueBest P B s → TrueBest P' B s
  true_best_agrees B =
      best_same (λ t w. (h.to t w.0, in_budget h B t w.0 w.1)) (λ t w. (h.from t w.0, in_budget (agree_sym h) B t w.0 w.1))
      (λ t w. h.distortion t w.0) (λ t w. h.rate t w.0)

  pub average_agrees : {B n d : ℕ} {s : List ℕ} → Average P B n d s → Average P' B n d s
  average_agrees {B} {n} {d} {s} a = record {
    plan = multiplier_agrees h n d a.plan;
    fits = in_budget h B s a.plan.one a.fits;
    least = λ n' d' s' k p g. a.least n' d' s' k (multiplier_agrees (agree_sym h) n' d' p) (in_budget (agree_sym h) B s' p.one g);
    lowest = a.lowest;
  }

  pub average_floor_agrees : {B n d F : ℕ} {s : List ℕ} → P.allowed s → AverageFloor P B n d s F → AverageFloor P' B n d s F
  average_floor_agrees {s = s} a f = rw (← (h.rate s a), ← (h.distortion s a)) f

  pub minmax_agrees : {B X : ℕ} {s : List ℕ} → Minmax P B X s → Minmax P' B X s
  minmax_agrees {B} {X} m = record {
    some_fits =
        (m.some_fits.0, under_ceiling h X m.some_fits.0 m.some_fits.1, in_budget h B m.some_fits.0 m.some_fits.1.0 m.some_fits.2);
    least = λ Y t w g. m.least Y t (under_ceiling (agree_sym h) Y t w) (in_budget (agree_sym h) B t w.0 g);
    plan = ceiling_agrees X m.plan;
  }

  pub none_allowed_agrees : NoneAllowed P → NoneAllowed P'
  none_allowed_agrees f t a = f t (h.from t a)

  none_agrees : {C C' : List ℕ → Type 0} → ((t : List ℕ) → C' t → C t) → NoneWithin P C → NoneWithin P' C'
  none_agrees from r = record { exist = (r.exist.0, h.to r.exist.0 r.exist.1); none_within = λ t w. r.none_within t (from t w) }

  pub none_under_ceiling_agrees : {X : ℕ} → NoneWithin P (UnderCeiling P X) → NoneWithin P' (UnderCeiling P' X)
  none_under_ceiling_agrees {X} = none_agrees (under_ceiling (agree_sym h) X)

  pub none_in_budget_agrees : {B : ℕ} → NoneWithin P (InBudget P B) → NoneWithin P' (InBudget P' B)
  none_in_budget_agrees {B} = none_agrees (λ t w. (h.from t w.0, in_budget (agree_sym h) B t w.0 w.1))
