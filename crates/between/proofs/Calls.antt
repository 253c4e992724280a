-- The two calls at one budget, on the same numbers, tables and weights, whatever their buffers. Assumes nothing.
use Rattle.promise.specs.Answers.{PlanAnswer, AverageAnswer}
use Rattle.std.specs.Prelude.{Ok}
use mathlib.Core.Path.{◌≡◌, refl, sym, ap, ◌∙◌}
use mathlib.Core.Bool.{false}
use mathlib.Core.Option.{none}
use mathlib.Core.List.{List}
use Prim.Native.Nat.{ℕ, ◌≤◌}
use native.Mathlib.Omega.{arith}
use lib.ListN.{length, get_or}
use borrow.Author.Tests.{le-ltb}
use Rattle.criteria.specs.Choice.{Problem, NoneAllowed, NoneWithin}
use Rattle.criteria.proofs.Between.{between}
use Rattle.tables.specs.declared.refusal.Refusal.{Refusal}
use Rattle.tables.specs.declared.refusal.Refusal.TheVariants as refusal
use Rattle.tables.specs.Limits.{most_scans, most_short_scans, most_short_budget}
use Rattle.tables.specs.Refusals.{Reply, answered}
use Rattle.tables.proofs.RefusalLaws.{answered_or_refused}
use Rattle.walk.specs.declared.Totals.{Totals}
use Rattle.walk.specs.Walked.{total_values}
use Rattle.checks.specs.Planning.{Asked, Sound, asking, problem_of, buffers_short}
use Rattle.checks.proofs.PlanningLaws.{sound_front, sound_or_not, fronted_passes}
use Rattle.promise.specs.declared.AveragePlan.{AveragePlan}
use Rattle.promise.specs.Promise.{PromiseOver, unsound, no_sequence, none_within, planned, AveragePromise, average_reply, plan_reply}
use Rattle.promise.proofs.Unique.{average_within}
use Rattle.best.specs.Best.{budget_check, best_short, BestSound, BestPromise}
use Rattle.between.specs.Between.{Between, GivenTogether}
use Rattle.between.proofs.Unique.{best_within}

-- what an answer with values tells, of either promise: a plan with those values
told_plan : {a : Asked} {Refused : Refusal → Type 0} {Passed : Type 0} {P : Problem} {within : List ℕ → Type 0} {Plan : List ℕ → List ℕ → Type 0}
    {Same Cleared : Type 0} {plan p : List ℕ} {reply : Reply} (v : List ℕ) → reply ≡ answered v → PromiseOver a Refused Passed P within Plan Same Cleared plan reply p →
    (s : List ℕ) × Plan s v
told_plan v h (unsound {r = r} u e f g) = absurd (answered_or_refused r (sym h ∙ e))
told_plan v h (no_sequence o n e f g) = absurd (answered_or_refused refusal.NoSequence (sym h ∙ e))
told_plan v h (none_within o n e f g) = absurd (answered_or_refused refusal.NoneWithin (sym h ∙ e))
told_plan {Plan = Plan} v h (planned o t w q e f g) = let z : w ≡ v = ap (λ (x : Reply). x.values) (sym e ∙ h) in (t, rw z at q)

-- .. and where the checks pass, which of the three answers is given is told by the problem and the limit alone
record Verdict (P : Problem) (within : List ℕ → Type 0) (k : ℕ) : Type 0 where
  given : k ≡ 0 → (t : List ℕ) × within t
  some : (t : List ℕ) → within t → k ≡ 0
  eight : k ≡ 8 → NoneAllowed P
  none_eight : NoneAllowed P → k ≡ 8
  nine : k ≡ 9 → NoneWithin P within
  none_nine : NoneWithin P within → k ≡ 9

verdict : {a : Asked} {Refused : Refusal → Type 0} {Passed : Type 0} {P : Problem} {within : List ℕ → Type 0} {Plan : List ℕ → List ℕ → Type 0}
    {Same Cleared : Type 0} {plan p : List ℕ} {reply : Reply} → ((r : Refusal) → Refused r → Passed → ⊥) → ((s v : List ℕ) → Plan s v → P.allowed s × within s) →
    ((t : List ℕ) → within t → P.allowed t) → Passed → PromiseOver a Refused Passed P within Plan Same Cleared plan reply p → Verdict P within reply.number
verdict not_both is_within allowed o (unsound {r = r} u e f g) = absurd (not_both r u o)
verdict not_both is_within allowed o (no_sequence o' n e f g) = rw e (record {
  given = λ z. absurd (omega arith);
  some = λ t w. absurd (n t (allowed t w));
  eight = λ z. n;
  none_eight = λ z. refl;
  nine = λ z. absurd (omega arith);
  none_nine = λ z. absurd (n z.exist.0 z.exist.1);
})
verdict not_both is_within allowed o (none_within o' n e f g) = rw e (record {
  given = λ z. absurd (omega arith);
  some = λ t w. absurd (n.none_within t w);
  eight = λ z. absurd (omega arith);
  none_eight = λ z. absurd (z n.exist.0 n.exist.1);
  nine = λ z. n;
  none_nine = λ z. refl;
})
verdict not_both is_within allowed o (planned o' t v q e f g) = rw e (record {
  given = λ z. (t, (is_within t v q).1);
  some = λ u w. refl;
  eight = λ z. absurd (omega arith);
  none_eight = λ z. absurd (z t (is_within t v q).0);
  nine = λ z. absurd (omega arith);
  none_nine = λ z. absurd (z.none_within t (is_within t v q).1);
})

together : {P : Problem} {within : List ℕ → Type 0} {x y : Reply} → Verdict P within x.number → Verdict P within y.number → GivenTogether x y
together v w = record {
  given = (λ e. let g = v.given e in w.some g.0 g.1, λ e. let g = w.given e in v.some g.0 g.1);
  eight = (λ e. w.none_eight (v.eight e), λ e. v.none_eight (w.eight e));
  nine = (λ e. w.none_nine (v.nine e), λ e. v.none_nine (w.nine e));
}

module _ (N Q law B : ℕ) (rates distortions weights : List ℕ) (plan_room scratch_room plan_room' choices_room : ℕ) where
  -- the questions of the two calls
  abbrev asked : Asked
  asked = asking N Q law rates distortions weights plan_room scratch_room

  abbrev asked' : Asked
  asked' = asking N Q law rates distortions weights plan_room' choices_room

  -- "at or above the average plan's floor and at most that plan's distortion"
  pub calls_between : {plan scratch p s plan₂ choices cells p₂ c₂ k₂ : List ℕ} (m : AveragePlan) (t : Totals) → AveragePromise asked B plan scratch (Ok m) p s →
      BestPromise asked' B plan₂ choices cells (Ok t) p₂ c₂ k₂ → Between m t
  calls_between m t h h' =
      let x = told_plan (average_reply (Ok m)).values refl h in
      let y = told_plan (total_values t) refl h' in
      let b = between (problem_of asked) x.1.plan x.1.proves y.1.0 in
      let ed : t.distortion.0 ≡ (problem_of asked).distortion y.0 = ap (λ (l : List ℕ). get_or l 1 0) y.1.1 in
      let md : m.totals.distortion.0 ≡ (problem_of asked).distortion x.0 = ap (λ (l : List ℕ). get_or l 3 0) x.1.values in
      let mf : m.floor.0 ≡ x.1.floor = ap (λ (l : List ℕ). get_or l 5 0) x.1.values in
      record { above = omega (arith, b.0); below = omega (arith, b.1) }

  -- a true best is given exactly where an average plan is, of questions that pass the checks of both
  pub given_together : {plan scratch p s plan₂ choices cells p₂ c₂ k₂ : List ℕ} (r : AverageAnswer) (r' : PlanAnswer) → Sound none asked → BestSound asked' B (length cells) → AveragePromise asked B plan scratch r p s →
      BestPromise asked' B plan₂ choices cells r' p₂ c₂ k₂ → GivenTogether (average_reply r) (plan_reply r')
  given_together r r' o o' h h' =
      together (verdict (λ x. sound_or_not) (average_within (problem_of asked) B) (λ t w. w.0) o h) (verdict (λ x. sound_or_not) (best_within (problem_of asked') B) (λ t w. w.0) o' h')

  -- .. and a question of at most 64 scans and a budget of at most 4,095 that passes those of the one passes those of the other, where its
  -- buffers are long enough
  pub best_passes : (room : ℕ) → Sound none asked → N ≤ most_short_scans → B ≤ most_short_budget → best_short N Q B plan_room' choices_room room ≡ false → BestSound asked' B room
  best_passes room o n b e =
      let f = sound_front o in
      record {
        passed = fronted_passes most_short_scans (budget_check B) (best_short N Q B plan_room' choices_room room) asked' (record {
          some_scans = f.some_scans;
          scans = n;
          some_settings = f.some_settings;
          settings = f.settings;
          law = f.law;
          further_passed = rw (le-ltb most_short_budget B b) refl;
          lengths = f.lengths;
        }) e;
        legal = o.legal;
      }

  pub average_passes : (room : ℕ) → BestSound asked' B room → buffers_short N Q plan_room scratch_room ≡ false → Sound none asked
  average_passes room o e =
      let f = sound_front o in
      record {
        passed = fronted_passes most_scans none (buffers_short N Q plan_room scratch_room) asked (record {
          some_scans = f.some_scans;
          scans = omega (arith, f.scans);
          some_settings = f.some_settings;
          settings = f.settings;
          law = f.law;
          further_passed = refl;
          lengths = f.lengths;
        }) e;
        legal = o.legal;
      }
