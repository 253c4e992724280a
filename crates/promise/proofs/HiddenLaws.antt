-- No answer of a planning call depends on a distortion beside a forbidden rate. Assumes nothing.
use Rattle.promise.specs.Answers.{PlanAnswer, MinmaxAnswer, AverageAnswer}
use mathlib.Core.Path.{◌≡◌, refl, sym, ◌∙◌}
use mathlib.Core.List.{List}
use Prim.Native.Nat.{ℕ}
use Rattle.criteria.proofs.Agree.{Agree}
use Rattle.tables.specs.declared.refusal.Refusal.{Refusal}
use Rattle.tables.specs.Legal.{SameShown}
use Rattle.checks.specs.Planning.{Asked, Unsound, early, illegal, Sound, first_early, early_refusal, asking_under, table_of, problem_of, weigh_of, fourth_check}
use Rattle.tables.proofs.HiddenLaws.{shown_agrees, all_legal_same, lowest_illegal_same}
use Rattle.promise.specs.Promise.{CeilingPromise, MultiplierPromise, MinmaxPromise, AveragePromise}
use Rattle.promise.proofs.Moves.{ceiling_moves, multiplier_moves, minmax_moves, average_moves}
use mathlib.Core.Option.{Option, none}

-- No answer depends on a distortion beside a forbidden rate: what is promised of one table is promised of the other.
module _ (a : Asked) (D : List ℕ) (shown : SameShown a.rates a.distortions D) where
  abbrev other : Asked
  other = asking_under a.lawless a.law a.N a.Q a.rates D a.weights a.plan a.scratch

  same : Agree (problem_of a) (problem_of other)
  same = shown_agrees (table_of a) D shown

  early_same : (further : Option Refusal) → early_refusal further a ≡ early_refusal further other
  unfolding first_early
  early_same further = rw shown.long

  sound_same : (further : Option Refusal) → Sound further a → Sound further other
  sound_same further s = record { passed = sym (early_same further) ∙ s.passed; legal = all_legal_same (weigh_of a) shown s.legal }

  unsound_same : (further : Option Refusal) (r : Refusal) → Unsound further a r → Unsound further other r
  unsound_same further r (early e) = early (sym (early_same further) ∙ e)
  unsound_same further r (illegal e l) = illegal (sym (early_same further) ∙ e) (lowest_illegal_same (weigh_of a) shown l)

  module _ {plan scratch p s : List ℕ} where
    pub ceiling_hidden : {X : ℕ} (r : PlanAnswer) → CeilingPromise a X plan scratch r p s → CeilingPromise other X plan scratch r p s
    ceiling_hidden {X} r = ceiling_moves {a = a} {a' = other} refl refl same (unsound_same none) (sound_same none) X

    pub multiplier_hidden : (n d : ℕ) (r : PlanAnswer) → MultiplierPromise a n d plan scratch r p s → MultiplierPromise other n d plan scratch r p s
    multiplier_hidden n d r = multiplier_moves {a = a} {a' = other} refl refl same (unsound_same (fourth_check n d)) (sound_same (fourth_check n d)) n d

    pub minmax_hidden : {B : ℕ} (r : MinmaxAnswer) → MinmaxPromise a B plan scratch r p s → MinmaxPromise other B plan scratch r p s
    minmax_hidden {B} r = minmax_moves {a = a} {a' = other} refl refl same (unsound_same none) (sound_same none) B

    pub average_hidden : {B : ℕ} (r : AverageAnswer) → AveragePromise a B plan scratch r p s → AveragePromise other B plan scratch r p s
    average_hidden {B} r = average_moves {a = a} {a' = other} refl refl same (unsound_same none) (sound_same none) B
