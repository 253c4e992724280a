-- Where all cells are legal the answer is the full one, and so that of the planning calls with a budget; and yes stays yes when the budget
-- grows. Assumes nothing.
use mathlib.Core.Path.{◌≡◌, refl}
use mathlib.Core.Logic.{◌↔◌, ◌⊎◌, inl, inr}
use mathlib.Core.Option.{none}
use mathlib.Core.List.{List}
use Prim.Native.Nat.{ℕ, ◌≤◌}
use native.Mathlib.Omega.{arith}
use lib.ListN.{get_or}
use Rattle.laws.proofs.Tests.{never, neither}
use Rattle.criteria.specs.Choice.{InBudget}
use Rattle.tables.specs.Limits.{most_scans}
use Rattle.tables.specs.Refusals.{Reply}
use Rattle.tables.specs.Series.{Series}
use Rattle.tables.specs.Tables.{series}
use Rattle.tables.specs.Legal.{LegalDistortion, LegalBeside, AllLegal, no_weights}
use Rattle.tables.proofs.Beginnings.{way_alike}
use Rattle.checks.specs.Planning.{Asked, Sound, table_of, problem_of, weigh_of, lengths_out, weights_out}
use Rattle.checks.proofs.PlanningLaws.{fronted_none, sound_front, sound_or_not}
use Rattle.promise.specs.Answers.{MinmaxAnswer, AverageAnswer}
use Rattle.promise.specs.Promise.{AveragePromise, MinmaxPromise, average_reply, minmax_reply}
use Rattle.promise.proofs.Unique.{average_within, minmax_within}
use Rattle.promise.proofs.Verdict.{Verdict, verdict}
use Rattle.fits.specs.Fits.{Question, series_asked, problem_asked, fits_refusal, OneFits, says_yes, says_no, FitsPromise, early, seven, none_fits, one_fits}
use Rattle.fitting.specs.Fitting.{with_budget, question_of, AsPlanned}
use Rattle.fitting.proofs.Unique.{legal_scans, no_or_yes, fits_unique, fits_exactly}

-- what a question whose cells are all legal is answered
pub record FullAnswer (a : Question) (reply : Reply) : Type 0 where
  pub yes : (reply ≡ says_yes) ↔ ((t : List ℕ) × InBudget (problem_asked a) a.budget t)
  pub no : (reply ≡ says_no) ↔ ((t : List ℕ) → InBudget (problem_asked a) a.budget t → ⊥)

-- "Where all cells are legal the yes or no must equal the full answer"
pub fits_full : {a : Question} {z : Reply} → fits_refusal a ≡ none → AllLegal no_weights a.rates a.distortions → FitsPromise a z → FullAnswer a z
fits_full {a} {z} passed legal h = record {
  yes = (λ e. let o = (fits_exactly h).yes.0 e in (o.plan, o.within), λ t. fits_unique h (one_fits (fitting t)));
  no = (λ e t w. no_or_yes ((fits_exactly h).no.0 e) (fitting (t, w)), λ n. none_left h n);
}
  where
    fitting : (t : List ℕ) × InBudget (problem_asked a) a.budget t → OneFits a
    fitting t = record { passed = passed; legal = legal; plan = t.0; within = t.1 }

    none_left : {z : Reply} → FitsPromise a z → ((t : List ℕ) → InBudget (problem_asked a) a.budget t → ⊥) → z ≡ says_no
    none_left (early e) n = never cc
    none_left (seven {c = c} s) n = absurd (s.lowest.illegal (legal_scans a passed legal s.scan s.read.inside c s.lowest.behind s.lowest.inside))
    none_left (none_fits s) n = refl
    none_left (one_fits o) n = absurd (n o.plan o.within)

-- a call with weights that passes its checks 1 to 7 asks a question that passes its own, of tables that are all legal
plain_legal : (weight D : ℕ) → LegalDistortion weight D → LegalDistortion 1 D
plain_legal weight D l = (l.0, omega (arith, l.0))

without_weights : (a : Asked) → AllLegal (weigh_of a) a.rates a.distortions → AllLegal no_weights a.rates a.distortions
without_weights a l k h = let c = l k h in (c.0, beside (weigh_of a k) c.1)
  where
    beside : (weight : ℕ) → LegalBeside weight (get_or a.rates k 0) (get_or a.distortions k 0) → LegalBeside 1 (get_or a.rates k 0) (get_or a.distortions k 0)
    beside weight (inl x) = inl (plain_legal weight (get_or a.distortions k 0) x)
    beside weight (inr x) = inr x

pub question_passes : (a : Asked) (B : ℕ) → Sound none a → fits_refusal (question_of a B) ≡ none
unfolding fits_refusal
question_passes a B s =
    let f = sound_front s in
    fronted_none most_scans a.N a.Q a.lawless none (lengths_out a.N a.Q a.rates a.distortions) (record {
      some_scans = f.some_scans;
      scans = f.scans;
      some_settings = f.some_settings;
      settings = f.settings;
      law = f.law;
      further_passed = refl;
      lengths = (neither (lengths_out a.N a.Q a.rates a.distortions) (weights_out a.N a.weights) f.lengths).0;
    })

-- neither what is allowed nor a rate depends on weights
module _ (a : Asked) (B : ℕ) (some_settings : 1 ≤ a.Q) where
  abbrev S : Series
  S = series (table_of a)

  abbrev S' : Series
  S' = series_asked (question_of a B)

  pub with_weights : (t : List ℕ) → InBudget (problem_asked (question_of a B)) B t → InBudget (problem_of a) B t
  with_weights t w =
      let x = way_alike S' S a.N (record { settings = refl; may = λ i p q h g l m. m; rate = λ i p q h g l. refl }) {s = t} (omega arith) some_settings (record { long = w.0.0; kept = w.0.1; fits = w.1 }) in
      ((x.long, x.kept), x.fits)

  pub less_weights : (t : List ℕ) → InBudget (problem_of a) B t → InBudget (problem_asked (question_of a B)) B t
  less_weights t w =
      let x = way_alike S S' a.N (record { settings = refl; may = λ i p q h g l m. m; rate = λ i p q h g l. refl }) {s = t} (omega arith) some_settings (record { long = w.0.0; kept = w.0.1; fits = w.1 }) in
      ((x.long, x.kept), x.fits)

-- beside a call with a budget that passed its checks: "(8 and 9 both count as no)"
as_planned : (a : Asked) (B : ℕ) → Sound none a → {z planned : Reply} → FitsPromise (question_of a B) z → Verdict (problem_of a) (InBudget (problem_of a) B) planned.number → AsPlanned z planned
as_planned a B s {z} {planned} h v = record {
  yes = (
    λ e. let t = full.yes.0 e in v.some t.0 (with_weights a B some t.0 t.1),
    λ e. let t = v.given e in full.yes.1 (t.0, less_weights a B some t.0 t.1),
  );
  no = (λ e. one_of (full.no.0 e) v.one_of, λ e. full.no.1 (λ t w. none_left e t (with_weights a B some t w)));
}
  where
    some : 1 ≤ a.Q
    some = (sound_front s).some_settings

    full : FullAnswer (question_of a B) z
    full = fits_full (question_passes a B s) (without_weights a s.legal) h

    one_of : ((t : List ℕ) → InBudget (problem_asked (question_of a B)) B t → ⊥) → (planned.number ≡ 0) ⊎ ((planned.number ≡ 8) ⊎ (planned.number ≡ 9)) → (planned.number ≡ 8) ⊎ (planned.number ≡ 9)
    one_of n (inl e) = let t = v.given e in absurd (n t.0 (less_weights a B some t.0 t.1))
    one_of n (inr e) = e

    none_left : (planned.number ≡ 8) ⊎ (planned.number ≡ 9) → (t : List ℕ) → InBudget (problem_of a) B t → ⊥
    none_left (inl e) t w = v.eight e t w.0
    none_left (inr e) t w = (v.nine e).none_within t w

-- no exactly where an average call or a minmax call that passes its checks 1 to 7 gives 8 or 9, whatever its weights and its buffers
pub fits_as_average : (a : Asked) (B : ℕ) → Sound none a → {z : Reply} → FitsPromise (question_of a B) z → {plan scratch p s : List ℕ} (r : AverageAnswer) →
    AveragePromise a B plan scratch r p s → AsPlanned z (average_reply r)
fits_as_average a B o h r k = as_planned a B o h (verdict (λ x. sound_or_not) (average_within (problem_of a) B) (λ t w. w.0) o k)

pub fits_as_minmax : (a : Asked) (B : ℕ) → Sound none a → {z : Reply} → FitsPromise (question_of a B) z → {plan scratch p s : List ℕ} (r : MinmaxAnswer) →
    MinmaxPromise a B plan scratch r p s → AsPlanned z (minmax_reply r)
fits_as_minmax a B o h r k = as_planned a B o h (verdict (λ x. sound_or_not) (minmax_within (problem_of a) B) (λ t w. w.0) o k)

-- yes stays yes when the budget grows
pub yes_stays : {a : Question} (B : ℕ) → a.budget ≤ B → FitsPromise a says_yes → {z : Reply} → FitsPromise (with_budget a B) z → z ≡ says_yes
unfolding fits_refusal
yes_stays {a} B g h k = let o = (fits_exactly h).yes.0 refl in fits_unique k (one_fits (more o))
  where
    more : OneFits a → OneFits (with_budget a B)
    more o = record { passed = o.passed; legal = o.legal; plan = o.plan; within = (o.within.0, omega (arith, o.within.1)) }
