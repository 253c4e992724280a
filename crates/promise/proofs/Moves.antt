-- A promise moves to another question of the same size whose checks come out alike, and whose problem agrees. Assumes nothing.
use mathlib.Core.Path.{◌≡◌, ap, ◌∙◌}
use mathlib.Core.List.{List, ◌∷◌}
use Prim.Native.Nat.{ℕ}
use Rattle.criteria.specs.Choice.{Problem, UnderCeiling, InBudget, NoneWithin}
use Rattle.criteria.proofs.Agree.{Agree, ceiling_agrees, multiplier_agrees, average_agrees, average_floor_agrees, minmax_agrees, none_allowed_agrees, none_under_ceiling_agrees, none_in_budget_agrees}
use Rattle.tables.specs.declared.refusal.Refusal.{Refusal}
use Rattle.tables.specs.Refusals.{Reply}
use Rattle.checks.specs.Planning.{Asked}
use Rattle.promise.specs.Promise.{PromiseOver, unsound, no_sequence, none_within, planned, wiped, totals, IsCeilingPlan, IsMultiplierPlan, IsMinmaxPlan, IsAveragePlan}

-- the totals of an allowed sequence
pub totals_same : {P P' : Problem} → Agree P P' → (t : List ℕ) → P.allowed t → totals P t ≡ totals P' t
totals_same same t l = rw (same.rate t l, same.distortion t l, same.peak t l)

-- .. in any words for what is left in scratch
module _ {a a' : Asked} (scans : a.N ≡ a'.N) {P P' : Problem} (same : Agree P P') {Refused Refused' : Refusal → Type 0}
    {Passed Passed' : Type 0} (refused : (r : Refusal) → Refused r → Refused' r) (passed : Passed → Passed') {plan p : List ℕ} {reply : Reply} where
  pub over_moves : {within within' : List ℕ → Type 0} {Plan Plan' : List ℕ → List ℕ → Type 0} {Same Same' Cleared Cleared' : Type 0} →
      (NoneWithin P within → NoneWithin P' within') → ((t v : List ℕ) → Plan t v → Plan' t v) → (Same → Same') → (Cleared → Cleared') →
      PromiseOver a Refused Passed P within Plan Same Cleared plan reply p → PromiseOver a' Refused' Passed' P' within' Plan' Same' Cleared' plan reply p
  over_moves w k s c (unsound {r = r} u e f g) = unsound (refused r u) e f (s g)
  over_moves w k s c (no_sequence o n e f g) = no_sequence (passed o) (none_allowed_agrees same n) e f (c g)
  over_moves w k s c (none_within o n e f g) = none_within (passed o) (w n) e f (c g)
  over_moves w k s c (planned o t v q e f g) = planned (passed o) t v (k t v q) e (rw scans at f) (c g)

module _ {a a' : Asked} (scans : a.N ≡ a'.N) (settings : a.Q ≡ a'.Q) {P P' : Problem} (same : Agree P P') {Refused Refused' : Refusal → Type 0}
    {Passed Passed' : Type 0} (refused : (r : Refusal) → Refused r → Refused' r) (passed : Passed → Passed') {plan scratch p s : List ℕ} {reply : Reply} where
  moves : {within within' : List ℕ → Type 0} {Plan Plan' : List ℕ → List ℕ → Type 0} → (NoneWithin P within → NoneWithin P' within') →
      ((t v : List ℕ) → Plan t v → Plan' t v) → PromiseOver a Refused Passed P within Plan (s ≡ scratch) (s ≡ wiped a scratch) plan reply p →
      PromiseOver a' Refused' Passed' P' within' Plan' (s ≡ scratch) (s ≡ wiped a' scratch) plan reply p
  moves w k h = over_moves {a = a} {a' = a'} scans same refused passed w k (λ g. g) (λ g. (rw (scans, settings) at g)) h

  -- .. of each call
  pub ceiling_moves : (X : ℕ) → PromiseOver a Refused Passed P (UnderCeiling P X) (IsCeilingPlan P X) (s ≡ scratch) (s ≡ wiped a scratch) plan reply p →
      PromiseOver a' Refused' Passed' P' (UnderCeiling P' X) (IsCeilingPlan P' X) (s ≡ scratch) (s ≡ wiped a' scratch) plan reply p
  ceiling_moves X = moves (none_under_ceiling_agrees same {X = X}) (λ t v q. (ceiling_agrees same X q.0, q.1 ∙ totals_same same t q.0.one.0))

  pub multiplier_moves : (n d : ℕ) → PromiseOver a Refused Passed P P.allowed (IsMultiplierPlan P n d) (s ≡ scratch) (s ≡ wiped a scratch) plan reply p →
      PromiseOver a' Refused' Passed' P' P'.allowed (IsMultiplierPlan P' n d) (s ≡ scratch) (s ≡ wiped a' scratch) plan reply p
  multiplier_moves n d = moves
      (λ w. record { exist = (w.exist.0, same.to w.exist.0 w.exist.1); none_within = λ t c. w.none_within t (same.from t c) })
      (λ t v q. (multiplier_agrees same n d q.0, q.1 ∙ totals_same same t q.0.one))

  pub minmax_moves : (B : ℕ) → PromiseOver a Refused Passed P (InBudget P B) (IsMinmaxPlan P B) (s ≡ scratch) (s ≡ wiped a scratch) plan reply p →
      PromiseOver a' Refused' Passed' P' (InBudget P' B) (IsMinmaxPlan P' B) (s ≡ scratch) (s ≡ wiped a' scratch) plan reply p
  minmax_moves B = moves (none_in_budget_agrees same {B = B}) (λ t v q. record {
    ceiling = q.ceiling;
    plan = minmax_agrees same q.plan;
    values = q.values ∙ ap (λ (l : List ℕ). q.ceiling ∷ l) (totals_same same t q.plan.plan.one.0);
  })

  pub average_moves : (B : ℕ) → PromiseOver a Refused Passed P (InBudget P B) (IsAveragePlan P B) (s ≡ scratch) (s ≡ wiped a scratch) plan reply p →
      PromiseOver a' Refused' Passed' P' (InBudget P' B) (IsAveragePlan P' B) (s ≡ scratch) (s ≡ wiped a' scratch) plan reply p
  average_moves B = moves (none_in_budget_agrees same {B = B}) (λ t v q. let l = q.plan.plan.one in record {
    n = q.n;
    d = q.d;
    floor = q.floor;
    plan = average_agrees same q.plan;
    proves = average_floor_agrees same {s = t} l q.proves;
    values = q.values ∙ rw (same.rate t l, same.distortion t l, same.peak t l);
  })

-- .. and to other words for what is left in scratch
pub scratch_moves : {a : Asked} {Refused : Refusal → Type 0} {Passed : Type 0} {P : Problem} {within : List ℕ → Type 0} {Plan : List ℕ → List ℕ → Type 0}
    {Same Same' Cleared Cleared' : Type 0} {plan p : List ℕ} {reply : Reply} → (Same → Same') → (Cleared → Cleared') →
    PromiseOver a Refused Passed P within Plan Same Cleared plan reply p → PromiseOver a Refused Passed P within Plan Same' Cleared' plan reply p
scratch_moves same cleared (unsound u e f g) = unsound u e f (same g)
scratch_moves same cleared (no_sequence o n e f g) = no_sequence o n e f (cleared g)
scratch_moves same cleared (none_within o n e f g) = none_within o n e f (cleared g)
scratch_moves same cleared (planned o t v q e f g) = planned o t v q e f (cleared g)
