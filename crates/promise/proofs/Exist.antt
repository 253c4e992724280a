-- Every question of a planning call has an answer that keeps its promise, under any law that has a test. Assumes nothing.
use Rattle.std.specs.Prelude.{Ok, Err}
use mathlib.Core.Path.{◌≡◌, refl}
use mathlib.Core.Logic.{◌⊎◌, inl, inr}
use mathlib.Core.Bool.{Bool, true, false, cond}
use mathlib.Core.Option.{Option, none, some}
use mathlib.Core.List.{List, [], ◌∷◌}
use Prim.Native.Nat.{ℕ, ◌+◌, ◌-◌, ◌*◌, ◌/◌}
use native.Mathlib.Decide.{dec_le}
use Rattle.criteria.specs.Choice.{Problem, UnderCeiling, InBudget, NoneAllowed}
use Rattle.criteria.proofs.Decide.{dec_×}
use Rattle.criteria.proofs.Finite.{Finite, some_of, some_or_none}
use Rattle.criteria.proofs.Exist.{some_plan, some_ceiling, some_average, some_minmax, floor_value}
use Rattle.tables.specs.declared.refusal.Refusal.{Refusal}
use Rattle.tables.specs.declared.refusal.Refusal.TheVariants as refusal
use Rattle.tables.specs.Refusals.{Reply, refused, answered}
use Rattle.tables.specs.Limits.{most_scans}
use Rattle.tables.specs.Law.{Tests}
use Rattle.tables.specs.Legal.{AllLegal, LowestIllegal}
use Rattle.tables.proofs.LawLaws.{tested?}
use Rattle.tables.proofs.Listing.{table_finite}
use Rattle.legal.proofs.LegalLaws.{lowest_or_all}
use Rattle.checks.specs.Planning.{Asked, UnsoundBy, SoundBy, early, illegal, first_early, buffers_short, table_of, problem_of, weigh_of, fourth_check}
use Rattle.walk.specs.declared.Totals.{Totals}
use Rattle.promise.specs.Says.{SomeAnswer}
use Rattle.promise.specs.Promise.{PromiseOver, Promise, unsound, no_sequence, none_within, planned, wiped, handed, totals, IsCeilingPlan, IsMultiplierPlan, IsMinmaxPlan, IsAveragePlan, plan_reply, minmax_reply, average_reply, CeilingPromise, MultiplierPromise, MinmaxPromise, AveragePromise}

-- an answer and a plan buffer of which a promise is true where scratch is as it was (`kept`), or where it is cleared
pub record SomeOutcome {Answer : Type 0} (promise : (Same Cleared : Type 0) → Answer → List ℕ → Type 0) : Type 1 where
  pub answer : Answer
  pub plan : List ℕ
  pub kept : Bool
  pub promised : (Same Cleared : Type 0) → cond kept Same Cleared → promise Same Cleared answer plan

-- a buffer that is one of two contents is that one
pub either : (kept : Bool) (x y : List ℕ) → cond kept (cond kept x y ≡ x) (cond kept x y ≡ y)
either true x y = refl
either false x y = refl

-- a plan with its values, and the answer that tells them
pub record PlanToTell {A : Type 0} (reply_of : A → Reply) (Plan : List ℕ → List ℕ → Type 0) : Type 0 where
  pub settings : List ℕ
  pub values : List ℕ
  pub is_plan : Plan settings values
  pub answer : A
  pub told : reply_of answer ≡ answered values

-- Where it is decided whether a sequence is allowed and whether one is within the limit, and one within it has a plan, a question has an
-- answer: with scratch as it was, or with scratch cleared.
module _ {A : Type 0} (reply_of : A → Reply) (refuse : Refusal → A) (refuses : (r : Refusal) → reply_of (refuse r) ≡ refused r)
    (most : ℕ) (further : Option Refusal) (short : Bool) (a : Asked) (within : List ℕ → Type 0) (Plan : List ℕ → List ℕ → Type 0) (plan : List ℕ)
    (allowed? : ((t : List ℕ) × (problem_of a).allowed t) ⊎ NoneAllowed (problem_of a)) (within? : ((t : List ℕ) × within t) ⊎ ((t : List ℕ) → within t → ⊥))
    (plans : (t : List ℕ) → within t → PlanToTell reply_of Plan) where
  abbrev Outcome : Type 1
  Outcome = SomeOutcome (λ (Same Cleared : Type 0) (x : A) (p : List ℕ).
      PromiseOver a (UnsoundBy most further short a) (SoundBy most further short a) (problem_of a) within Plan Same Cleared plan (reply_of x) p)

  pub some_outcome : Outcome
  some_outcome = by_early (first_early most further short a) refl
    where
      by_within : SoundBy most further short a → (t : List ℕ) × (problem_of a).allowed t → ((t : List ℕ) × within t) ⊎ ((t : List ℕ) → within t → ⊥) → Outcome
      by_within o t (inl w) =
          let m = plans w.0 w.1 in
          record {
            answer = m.answer;
            plan = handed a m.settings plan;
            kept = false;
            promised = λ Same Cleared c. planned o m.settings m.values m.is_plan m.told refl c;
          }
      by_within o t (inr n) = record {
        answer = refuse refusal.NoneWithin;
        plan = plan;
        kept = false;
        promised = λ Same Cleared c. none_within o (record { exist = t; none_within = n }) (refuses refusal.NoneWithin) refl c;
      }

      by_allowed : SoundBy most further short a → ((t : List ℕ) × (problem_of a).allowed t) ⊎ NoneAllowed (problem_of a) → Outcome
      by_allowed o (inl t) = by_within o t within?
      by_allowed o (inr n) = record {
        answer = refuse refusal.NoSequence;
        plan = plan;
        kept = false;
        promised = λ Same Cleared c. no_sequence o n (refuses refusal.NoSequence) refl c;
      }

      by_cells : first_early most further short a ≡ none → ((k : ℕ) × LowestIllegal (weigh_of a) a.rates a.distortions k) ⊎ AllLegal (weigh_of a) a.rates a.distortions → Outcome
      by_cells e (inl f) = record {
        answer = refuse (refusal.Cell f.0);
        plan = plan;
        kept = true;
        promised = λ Same Cleared c. unsound {r = refusal.Cell f.0} (illegal e f.1) (refuses (refusal.Cell f.0)) refl c;
      }
      by_cells e (inr l) = by_allowed (record { passed = e; legal = l }) allowed?

      by_early : (o : Option Refusal) → first_early most further short a ≡ o → Outcome
      by_early none e = by_cells e (lowest_or_all (weigh_of a) a.rates a.distortions)
      by_early (some r) e = record {
        answer = refuse r;
        plan = plan;
        kept = true;
        promised = λ Same Cleared c. unsound {r = r} (early e) (refuses r) refl c;
      }

-- .. of the four calls
module _ {A : Type 0} (reply_of : A → Reply) (refuse : Refusal → A) (refuses : (r : Refusal) → reply_of (refuse r) ≡ refused r)
    (further : Option Refusal) (a : Asked) (within : List ℕ → Type 0) (Plan : List ℕ → List ℕ → Type 0) (plan scratch : List ℕ)
    (allowed? : ((t : List ℕ) × (problem_of a).allowed t) ⊎ NoneAllowed (problem_of a)) (within? : ((t : List ℕ) × within t) ⊎ ((t : List ℕ) → within t → ⊥))
    (plans : (t : List ℕ) → within t → PlanToTell reply_of Plan) where
  some_answer : SomeAnswer (λ (x : A) (p s : List ℕ). Promise further a within Plan plan scratch (reply_of x) p s)
  some_answer =
      let o = some_outcome reply_of refuse refuses most_scans further (buffers_short a.N a.Q a.plan a.scratch) a within Plan plan allowed? within? plans in
      record {
        answer = o.answer;
        plan = o.plan;
        scratch = cond o.kept scratch (wiped a scratch);
        promised = o.promised (cond o.kept scratch (wiped a scratch) ≡ scratch) (cond o.kept scratch (wiped a scratch) ≡ wiped a scratch) (either o.kept scratch (wiped a scratch));
      }

-- the totals of a sequence
unfoldable pub totals_of : Problem → List ℕ → Totals
totals_of P s = record { rate = record { 0 = P.rate s }; distortion = record { 0 = P.distortion s }; peak = P.peak s }

module _ (a : Asked) {test : ℕ → ℕ → Bool} (tests : Tests test a.law) where
  -- the problem, and that its sequences are finitely many and decided
  abbrev P : Problem
  P = problem_of a

  abbrev fin : Finite P
  fin = table_finite (table_of a) (tested? tests)

  module _ (plan scratch : List ℕ) where
    pub ceiling_some : (X : ℕ) → SomeAnswer (CeilingPromise a X plan scratch)
    unfolding totals_of
    ceiling_some X = some_answer plan_reply Err (λ r. refl) none a (UnderCeiling P X) (IsCeilingPlan P X) plan scratch (some_or_none P fin)
        (some_of P fin (UnderCeiling P X) (λ t. dec_× (fin.decide t) (dec_le (P.peak t) X)) (λ t w. w.0))
        (λ t w. let s = some_ceiling P fin X t w in
        record { settings = s.0; values = totals P s.0; is_plan = (s.1, refl); answer = Ok (totals_of P s.0); told = refl })

    pub multiplier_some : (n d : ℕ) → SomeAnswer (MultiplierPromise a n d plan scratch)
    unfolding totals_of
    multiplier_some n d = some_answer plan_reply Err (λ r. refl) (fourth_check n d) a P.allowed (IsMultiplierPlan P n d) plan scratch (some_or_none P fin) (some_of P fin P.allowed fin.decide (λ t w. w))
        (λ t w. let s = some_plan P fin t w n d in
        record { settings = s.0; values = totals P s.0; is_plan = (s.1, refl); answer = Ok (totals_of P s.0); told = refl })

    -- whether some sequence is within a budget
    pub in_budget? : (B : ℕ) → ((t : List ℕ) × InBudget P B t) ⊎ ((t : List ℕ) → InBudget P B t → ⊥)
    in_budget? B = some_of P fin (InBudget P B) (λ t. dec_× (fin.decide t) (dec_le (P.rate t) B)) (λ t w. w.0)

    pub minmax_some : (B : ℕ) → SomeAnswer (MinmaxPromise a B plan scratch)
    unfolding totals_of
    minmax_some B = some_answer minmax_reply Err (λ r. refl) none a (InBudget P B) (IsMinmaxPlan P B) plan scratch (some_or_none P fin) (in_budget? B)
        (λ t w. let m = some_minmax P fin B t w in
        record {
          settings = m.1;
          values = m.0 ∷ totals P m.1;
          is_plan = record { ceiling = m.0; plan = m.2; values = refl };
          answer = Ok (record { ceiling = m.0; totals = totals_of P m.1 });
          told = refl;
        })

    pub average_some : (B : ℕ) → SomeAnswer (AveragePromise a B plan scratch)
    unfolding totals_of
    average_some B = some_answer average_reply Err (λ r. refl) none a (InBudget P B) (IsAveragePlan P B) plan scratch (some_or_none P fin) (in_budget? B)
        (λ t w. let m = some_average P fin B t w in
        let F = (m.1 * P.distortion m.2 + m.0 * P.rate m.2 - m.0 * B + (m.1 - 1)) / m.1 in
        record {
          settings = m.2;
          values = m.0 ∷ m.1 ∷ P.rate m.2 ∷ P.distortion m.2 ∷ P.peak m.2 ∷ F ∷ [];
          is_plan = record {
            n = m.0;
            d = m.1;
            floor = F;
            plan = m.3;
            proves = floor_value m.0 m.1 B (P.distortion m.2) (P.rate m.2) m.3.lowest.whole;
            values = refl;
          };
          answer = Ok (record { n = m.0; d = m.1; floor = record { 0 = F }; totals = totals_of P m.2 });
          told = refl;
        })
