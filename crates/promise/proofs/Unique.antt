-- One answer and one content of every lent byte for equal inputs, of each planning call. Assumes nothing.
use Rattle.promise.specs.Answers.{PlanAnswer, MinmaxAnswer, AverageAnswer}
use Rattle.std.specs.Prelude.{Ok, Err}
use mathlib.Core.Path.{◌≡◌, sym, ap, ◌∙◌}
use mathlib.Core.Logic.{◌⊎◌, inl, inr}
use mathlib.Core.List.{List}
use Prim.Native.Nat.{ℕ, suc}
use lib.ListN.{get_or}
use Rattle.criteria.specs.Choice.{Problem, UnderCeiling, InBudget}
use Rattle.criteria.proofs.Unique.{ceiling_unique, multiplier_unique, average_unique, average_floor_unique, minmax_unique}
use Rattle.criteria.proofs.Ceilings.{minmax_fits}
use Rattle.tables.specs.declared.refusal.Refusal.{Refusal}
use Rattle.tables.specs.Refusals.{Reply, refused, answered}
use Rattle.checks.specs.Planning.{Asked, problem_of}
use Rattle.tables.proofs.RefusalLaws.{refused_unique, answered_or_refused}
use Rattle.walk.specs.declared.Totals.{Totals}
use Rattle.promise.specs.Promise.{PromiseOver, Promise, unsound, no_sequence, none_within, planned, handed, totals, IsCeilingPlan, IsMultiplierPlan, IsMinmaxPlan, IsAveragePlan, plan_reply, minmax_reply, average_reply, CeilingPromise, MultiplierPromise, MinmaxPromise, AveragePromise}
use Rattle.checks.proofs.PlanningLaws.{unsound_unique, sound_or_not}
use mathlib.Core.Option.{Option}

-- One relation, one outcome: where the first refusal is one and none is given where the checks pass, the plan is one, and no plan is given where
-- nothing is within.
module _ {a : Asked} {Refused : Refusal → Type 0} {Passed : Type 0} {P : Problem} {within : List ℕ → Type 0} {Plan : List ℕ → List ℕ → Type 0} {plan : List ℕ}
    (one_refusal : (r r' : Refusal) → Refused r → Refused r' → r ≡ r') (not_both : (r : Refusal) → Refused r → Passed → ⊥)
    (one_plan : (s v s' v' : List ℕ) → Plan s v → Plan s' v' → (s ≡ s') × (v ≡ v'))
    (is_within : (s v : List ℕ) → Plan s v → P.allowed s × within s) where
  -- of two answers: the same number, the same values and the same plan buffer, and scratch as it was after both or cleared after both
  pub over_unique : {Same Cleared Same' Cleared' : Type 0} {reply reply' : Reply} {p p' : List ℕ} →
      PromiseOver a Refused Passed P within Plan Same Cleared plan reply p → PromiseOver a Refused Passed P within Plan Same' Cleared' plan reply' p' →
      (reply ≡ reply') × (p ≡ p') × ((Same × Same') ⊎ (Cleared × Cleared'))
  over_unique (unsound {r = r} u e f g) (unsound {r = r'} u' e' f' g') = (e ∙ ap refused (one_refusal r r' u u') ∙ sym e', cc, inl (g, g'))
  over_unique (unsound {r = r} u e f g) (no_sequence s n e' f' g') = absurd (not_both r u s)
  over_unique (unsound {r = r} u e f g) (none_within s n e' f' g') = absurd (not_both r u s)
  over_unique (unsound {r = r} u e f g) (planned s t v p e' f' g') = absurd (not_both r u s)
  over_unique (no_sequence s n e f g) (unsound {r = r} u e' f' g') = absurd (not_both r u s)
  over_unique (no_sequence s n e f g) (no_sequence s' n' e' f' g') = (cc, cc, inr (g, g'))
  over_unique (no_sequence s n e f g) (none_within s' n' e' f' g') = absurd (n n'.exist.0 n'.exist.1)
  over_unique (no_sequence s n e f g) (planned s' t v p e' f' g') = absurd (n t (is_within t v p).0)
  over_unique (none_within s n e f g) (unsound {r = r} u e' f' g') = absurd (not_both r u s)
  over_unique (none_within s n e f g) (no_sequence s' n' e' f' g') = absurd (n' n.exist.0 n.exist.1)
  over_unique (none_within s n e f g) (none_within s' n' e' f' g') = (cc, cc, inr (g, g'))
  over_unique (none_within s n e f g) (planned s' t v p e' f' g') = absurd (n.none_within t (is_within t v p).1)
  over_unique (planned s t v p e f g) (unsound {r = r} u e' f' g') = absurd (not_both r u s)
  over_unique (planned s t v p e f g) (no_sequence s' n' e' f' g') = absurd (n' t (is_within t v p).0)
  over_unique (planned s t v p e f g) (none_within s' n' e' f' g') = absurd (n'.none_within t (is_within t v p).1)
  over_unique (planned s t v p e f g) (planned s' t' v' p' e' f' g') =
      let q = one_plan t v t' v' p p' in
      (e ∙ ap answered q.1 ∙ sym e', f ∙ ap (λ (x : List ℕ). handed a x plan) q.0 ∙ sym f', inr (g, g'))

-- a buffer that is one of two contents after both has one content
pub one_content : {s s' x y : List ℕ} → ((s ≡ x) × (s' ≡ x)) ⊎ ((s ≡ y) × (s' ≡ y)) → s ≡ s'
one_content (inl e) = e.0 ∙ sym e.1
one_content (inr e) = e.0 ∙ sym e.1

-- .. of the four calls
module _ {further : Option Refusal} {a : Asked} {within : List ℕ → Type 0} {Plan : List ℕ → List ℕ → Type 0} {plan scratch : List ℕ}
    (one_plan : (s v s' v' : List ℕ) → Plan s v → Plan s' v' → (s ≡ s') × (v ≡ v'))
    (is_within : (s v : List ℕ) → Plan s v → (problem_of a).allowed s × within s) where
  pub promise_unique : {reply reply' : Reply} {p p' s s' : List ℕ} → Promise further a within Plan plan scratch reply p s →
      Promise further a within Plan plan scratch reply' p' s' → (reply ≡ reply') × (p ≡ p') × (s ≡ s')
  promise_unique h h' = let u = over_unique (λ r r'. unsound_unique) (λ r. sound_or_not) one_plan is_within h h' in (u.0, u.1, one_content u.2)

-- Each call's plan is one, and within its limit.
module _ (P : Problem) where
  pub one_ceiling : (X : ℕ) (s v s' v' : List ℕ) → IsCeilingPlan P X s v → IsCeilingPlan P X s' v' → (s ≡ s') × (v ≡ v')
  one_ceiling X s v s' v' p q = let e = ceiling_unique P p.0 q.0 in (e, p.1 ∙ ap (totals P) e ∙ sym q.1)

  pub ceiling_within : (X : ℕ) (s v : List ℕ) → IsCeilingPlan P X s v → P.allowed s × UnderCeiling P X s
  ceiling_within X s v p = (p.0.one.0, p.0.one)

  pub one_multiplier : (n d : ℕ) (s v s' v' : List ℕ) → IsMultiplierPlan P n d s v → IsMultiplierPlan P n d s' v' → (s ≡ s') × (v ≡ v')
  one_multiplier n d s v s' v' p q = let e = multiplier_unique P n d p.0 q.0 in (e, p.1 ∙ ap (totals P) e ∙ sym q.1)

  pub multiplier_within : (n d : ℕ) (s v : List ℕ) → IsMultiplierPlan P n d s v → P.allowed s × P.allowed s
  multiplier_within n d s v p = (p.0.one, p.0.one)

  pub one_minmax : (B : ℕ) (s v s' v' : List ℕ) → IsMinmaxPlan P B s v → IsMinmaxPlan P B s' v' → (s ≡ s') × (v ≡ v')
  one_minmax B s v s' v' p q = let e = minmax_unique P p.plan q.plan in (e.1, p.values ∙ rw (e.0, e.1) (sym q.values))

  pub minmax_within : (B : ℕ) (s v : List ℕ) → IsMinmaxPlan P B s v → P.allowed s × InBudget P B s
  minmax_within B s v p = let a = p.plan.plan.one.0 in (a, (a, minmax_fits P p.plan))

  pub one_average : (B : ℕ) (s v s' v' : List ℕ) → IsAveragePlan P B s v → IsAveragePlan P B s' v' → (s ≡ s') × (v ≡ v')
  one_average B s v s' v' p q =
      let e = average_unique P p.plan q.plan in
      let f = average_floor_unique P p.plan p.proves q.plan q.proves in
      (e.2, p.values ∙ rw (e.0, e.1, e.2, f) (sym q.values))

  pub average_within : (B : ℕ) (s v : List ℕ) → IsAveragePlan P B s v → P.allowed s × InBudget P B s
  average_within B s v p = let a = p.plan.plan.one in (a, (a, p.plan.fits))

-- An answer is settled by its number and values.
totals_from : List ℕ → ℕ → Totals
totals_from v i = record { rate = record { 0 = get_or v i 0 }; distortion = record { 0 = get_or v (suc i) 0 }; peak = get_or v (suc (suc i)) 0 }

pub plan_answer_unique : (r r' : PlanAnswer) → plan_reply r ≡ plan_reply r' → r ≡ r'
unfolding totals_from
plan_answer_unique (Ok t) (Ok t') e = ap (λ (x : Reply). Ok (totals_from x.values 0)) e
plan_answer_unique (Ok t) (Err r) e = absurd (answered_or_refused r e)
plan_answer_unique (Err r) (Ok t) e = absurd (answered_or_refused r (sym e))
plan_answer_unique (Err r) (Err r') e = ap Err (refused_unique e)

pub minmax_answer_unique : (r r' : MinmaxAnswer) → minmax_reply r ≡ minmax_reply r' → r ≡ r'
unfolding totals_from
minmax_answer_unique (Ok m) (Ok m') e =
    ap (λ (x : Reply). Ok (record { ceiling = get_or x.values 0 0; totals = totals_from x.values 1 })) e
minmax_answer_unique (Ok m) (Err r) e = absurd (answered_or_refused r e)
minmax_answer_unique (Err r) (Ok m) e = absurd (answered_or_refused r (sym e))
minmax_answer_unique (Err r) (Err r') e = ap Err (refused_unique e)

pub average_answer_unique : (r r' : AverageAnswer) → average_reply r ≡ average_reply r' → r ≡ r'
unfolding totals_from
average_answer_unique (Ok m) (Ok m') e =
    ap (λ (x : Reply). Ok (record {
      n = get_or x.values 0 0;
      d = get_or x.values 1 0;
      floor = record { 0 = get_or x.values 5 0 };
      totals = totals_from x.values 2;
    })) e
average_answer_unique (Ok m) (Err r) e = absurd (answered_or_refused r e)
average_answer_unique (Err r) (Ok m) e = absurd (answered_or_refused r (sym e))
average_answer_unique (Err r) (Err r') e = ap Err (refused_unique e)

-- The theorems, one for each call: equal inputs leave one answer and one content of every buffer.
module _ {a : Asked} {plan scratch p p' s s' : List ℕ} where
  pub ceiling_settled : {X : ℕ} (r r' : PlanAnswer) → CeilingPromise a X plan scratch r p s → CeilingPromise a X plan scratch r' p' s' →
      (r ≡ r') × (p ≡ p') × (s ≡ s')
  ceiling_settled {X} r r' h h' =
      let u = promise_unique (one_ceiling (problem_of a) X) (ceiling_within (problem_of a) X) h h' in (plan_answer_unique r r' u.0, u.1, u.2)

  pub multiplier_settled : (n d : ℕ) (r r' : PlanAnswer) → MultiplierPromise a n d plan scratch r p s → MultiplierPromise a n d plan scratch r' p' s' →
      (r ≡ r') × (p ≡ p') × (s ≡ s')
  multiplier_settled n d r r' h h' =
      let u = promise_unique (one_multiplier (problem_of a) n d) (multiplier_within (problem_of a) n d) h h' in (plan_answer_unique r r' u.0, u.1, u.2)

  pub minmax_settled : {B : ℕ} (r r' : MinmaxAnswer) → MinmaxPromise a B plan scratch r p s → MinmaxPromise a B plan scratch r' p' s' →
      (r ≡ r') × (p ≡ p') × (s ≡ s')
  minmax_settled {B} r r' h h' =
      let u = promise_unique (one_minmax (problem_of a) B) (minmax_within (problem_of a) B) h h' in (minmax_answer_unique r r' u.0, u.1, u.2)

  pub average_settled : {B : ℕ} (r r' : AverageAnswer) → AveragePromise a B plan scratch r p s → AveragePromise a B plan scratch r' p' s' →
      (r ≡ r') × (p ≡ p') × (s ≡ s')
  average_settled {B} r r' h h' =
      let u = promise_unique (one_average (problem_of a) B) (average_within (problem_of a) B) h h' in (average_answer_unique r r' u.0, u.1, u.2)
