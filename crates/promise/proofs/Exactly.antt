-- 8 exactly when no sequence is allowed, and 9 exactly when some is and none is within the limit, so never for a multiplier.
-- Assumes nothing.
use Rattle.promise.specs.Answers.{PlanAnswer, MinmaxAnswer, AverageAnswer}
use mathlib.Core.Path.{◌≡◌, sym, ap, ◌∙◌}
use mathlib.Core.Logic.{◌↔◌}
use mathlib.Core.Bool.{Bool}
use mathlib.Core.Option.{Option, none}
use mathlib.Core.List.{List}
use Prim.Native.Nat.{ℕ, ◌≤◌}
use native.Mathlib.Omega.{arith}
use Rattle.criteria.specs.Choice.{Problem, UnderCeiling, InBudget, NoneAllowed, NoneWithin}
use Rattle.tables.specs.declared.refusal.Refusal.{Refusal}
use Rattle.tables.specs.declared.refusal.Refusal.TheVariants as refusal
use Rattle.tables.specs.Refusals.{Reply, refused, number_of}
use Rattle.checks.specs.Planning.{Asked, UnsoundBy, early, illegal, problem_of, fourth_check, multiplier_out}
use Rattle.tables.proofs.RefusalLaws.{refused_unique, answered_or_refused}
use Rattle.laws.proofs.Tests.{never}
use Rattle.promise.specs.Says.{ExactlyOver, SaysExactly}
use Rattle.promise.specs.Promise.{PromiseOver, unsound, no_sequence, none_within, planned, plan_reply, minmax_reply, average_reply, CeilingPromise, MultiplierPromise, MinmaxPromise, AveragePromise}
use Rattle.promise.proofs.Unique.{ceiling_within, multiplier_within, minmax_within, average_within}
use Rattle.checks.proofs.PlanningLaws.{sound_or_not, early_gives}
use Rattle.checks.proofs.GiveLaws.{Gives, given, gives_when}

-- a refusal of the checks 1 to 7: neither 8 nor 9
abbrev pub Early : Refusal → Type 0
Early r = (number_of r ≡ 8 → ⊥) × (number_of r ≡ 9 → ⊥)

-- where the further check gives neither, no check of 1 to 7 does
pub unsound_early : {most : ℕ} {further : Option Refusal} {short : Bool} {a : Asked} {r : Refusal} → Gives Early further → UnsoundBy most further short a r → Early r
unsound_early {most} {further} {short} {a} {r} f (early e) =
    given Early (early_gives Early most further short a (low 1 (omega arith)) (low 2 (omega arith)) (low 3 (omega arith)) f (low 5 (omega arith)) (low 6 (omega arith))) e
  where
    low : (k : ℕ) → k ≤ 6 → (k ≡ 8 → ⊥) × (k ≡ 9 → ⊥)
    low k h = (λ z. omega arith, λ z. omega arith)
unsound_early f (illegal e l) = (λ z. omega arith, λ z. omega arith)

-- so it is of the calls that have no further check, and of check 4
pub none_early : Gives Early none
none_early = tt

pub fourth_early : (n d : ℕ) → Gives Early (fourth_check n d)
fourth_early n d = gives_when Early (multiplier_out n d) refusal.Multiplier (λ z. omega arith, λ z. omega arith)

-- 8 exactly when no sequence is allowed, and 9 exactly when some is and none is within, of questions that pass the checks 1 to 7
module _ {a : Asked} {Refused : Refusal → Type 0} {Passed : Type 0} {P : Problem} {within : List ℕ → Type 0} {Plan : List ℕ → List ℕ → Type 0}
    {Same Cleared : Type 0} {plan p : List ℕ} {reply : Reply} (neither : (r : Refusal) → Refused r → Early r) (not_both : (r : Refusal) → Refused r → Passed → ⊥)
    (is_within : (s v : List ℕ) → Plan s v → P.allowed s × within s) (promise : PromiseOver a Refused Passed P within Plan Same Cleared plan reply p) where
  abbrev ThisPromise : Type 0
  ThisPromise = PromiseOver a Refused Passed P within Plan Same Cleared plan reply p

  eight_exactly : (reply ≡ refused refusal.NoSequence) ↔ (Passed × NoneAllowed P)
  eight_exactly = (to promise, fro promise)
    where
      to : ThisPromise → reply ≡ refused refusal.NoSequence → Passed × NoneAllowed P
      to (unsound {r = r} u e f g) h = let z : r ≡ refusal.NoSequence = refused_unique (sym e ∙ h) in absurd ((neither r u).0 (ap number_of z))
      to (no_sequence o n e f g) h = (o, n)
      to (none_within o n e f g) h = let z : refusal.NoneWithin ≡ refusal.NoSequence = refused_unique (sym e ∙ h) in never (cc)
      to (planned o t v q e f g) h = absurd (answered_or_refused refusal.NoSequence (sym e ∙ h))

      fro : ThisPromise → Passed × NoneAllowed P → reply ≡ refused refusal.NoSequence
      fro (unsound {r = r} u e f g) h = absurd (not_both r u h.0)
      fro (no_sequence o n e f g) h = e
      fro (none_within o n e f g) h = absurd (h.1 n.exist.0 n.exist.1)
      fro (planned o t v q e f g) h = absurd (h.1 t (is_within t v q).0)

  nine_exactly : (reply ≡ refused refusal.NoneWithin) ↔ (Passed × NoneWithin P within)
  nine_exactly = (to promise, fro promise)
    where
      to : ThisPromise → reply ≡ refused refusal.NoneWithin → Passed × NoneWithin P within
      to (unsound {r = r} u e f g) h = let z : r ≡ refusal.NoneWithin = refused_unique (sym e ∙ h) in absurd ((neither r u).1 (ap number_of z))
      to (no_sequence o n e f g) h = let z : refusal.NoSequence ≡ refusal.NoneWithin = refused_unique (sym e ∙ h) in never (cc)
      to (none_within o n e f g) h = (o, n)
      to (planned o t v q e f g) h = absurd (answered_or_refused refusal.NoneWithin (sym e ∙ h))

      fro : ThisPromise → Passed × NoneWithin P within → reply ≡ refused refusal.NoneWithin
      fro (unsound {r = r} u e f g) h = absurd (not_both r u h.0)
      fro (no_sequence o n e f g) h = absurd (n h.1.exist.0 h.1.exist.1)
      fro (none_within o n e f g) h = e
      fro (planned o t v q e f g) h = absurd (h.1.none_within t (is_within t v q).1)

  pub over_exactly : ExactlyOver Passed P within reply
  over_exactly = record { eight = eight_exactly; nine = nine_exactly }

-- a reply of number 9, however it is written
still_nine : {x y : Reply} → x ≡ y → x.number ≡ 9 → y.number ≡ 9
still_nine e h = sym (ap (λ (x : Reply). x.number) e) ∙ h

-- "9 never there": a multiplier is no limit, so no multiplier call gives 9
pub multiplier_never_nine : {a : Asked} (n d : ℕ) {plan scratch p s : List ℕ} (r : PlanAnswer) → MultiplierPromise a n d plan scratch r p s →
    (plan_reply r).number ≡ 9 → ⊥
multiplier_never_nine n d r (unsound u e f g) h = (unsound_early (fourth_early n d) u).1 (still_nine e h)
multiplier_never_nine n d r (no_sequence o w e f g) h = omega (arith, still_nine e h)
multiplier_never_nine n d r (none_within o w e f g) h = w.none_within w.exist.0 w.exist.1
multiplier_never_nine n d r (planned o t v q e f g) h = omega (arith, still_nine e h)

-- Both of each call. A multiplier is no limit, so of its call the second is never so.
pub multiplier_exactly : {a : Asked} (n d : ℕ) {plan scratch p s : List ℕ} (r : PlanAnswer) → MultiplierPromise a n d plan scratch r p s →
    SaysExactly (fourth_check n d) a (problem_of a).allowed (plan_reply r)
multiplier_exactly {a} n d r h = over_exactly (λ x. unsound_early (fourth_early n d)) (λ x. sound_or_not) (multiplier_within (problem_of a) n d) h

pub ceiling_exactly : {a : Asked} (X : ℕ) {plan scratch p s : List ℕ} (r : PlanAnswer) → CeilingPromise a X plan scratch r p s →
    SaysExactly none a (UnderCeiling (problem_of a) X) (plan_reply r)
ceiling_exactly {a} X r h = over_exactly (λ x. unsound_early none_early) (λ x. sound_or_not) (ceiling_within (problem_of a) X) h

pub minmax_exactly : {a : Asked} (B : ℕ) {plan scratch p s : List ℕ} (r : MinmaxAnswer) → MinmaxPromise a B plan scratch r p s →
    SaysExactly none a (InBudget (problem_of a) B) (minmax_reply r)
minmax_exactly {a} B r h = over_exactly (λ x. unsound_early none_early) (λ x. sound_or_not) (minmax_within (problem_of a) B) h

pub average_exactly : {a : Asked} (B : ℕ) {plan scratch p s : List ℕ} (r : AverageAnswer) → AveragePromise a B plan scratch r p s →
    SaysExactly none a (InBudget (problem_of a) B) (average_reply r)
average_exactly {a} B r h = over_exactly (λ x. unsound_early none_early) (λ x. sound_or_not) (average_within (problem_of a) B) h
