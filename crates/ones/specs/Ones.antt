-- Document 02, [5]: "All weights 1 must give exactly today's answers." What that says of a question. Assumes nothing.
use Rattle.promise.specs.Answers.{PlanAnswer, MinmaxAnswer, AverageAnswer}
use Rattle.std.specs.Prelude.{◌≡◌, ◌↔◌, List, ℕ, length}
use Rattle.std.proofs.Math.Option.{Option}
use Rattle.criteria.specs.Choice.{Problem}
use Rattle.tables.specs.declared.refusal.Refusal.{Refusal}
use Rattle.tables.specs.Tables.{AllOne}
use Rattle.checks.specs.Planning.{Asked, Unsound, Sound, early_refusal, problem_of}
use Rattle.promise.specs.Promise.{CeilingPromise, MultiplierPromise, MinmaxPromise, AveragePromise}
use Rattle.ones.specs.Before.{plain_refusal, PlainUnsound, PlainSound, plain_problem, PlainCeiling, PlainMultiplier, PlainMinmax, PlainAverage}

-- "a lent slice of N", "All weights 1"
pub record WeightsOne (a : Asked) : Type 0 where
  pub long : length a.weights ≡ a.N
  pub ones : AllOne a.weights

-- the same sequences are allowed, and each of them comes to the same
pub record SameProblem (P P' : Problem) : Type 0 where
  pub allowed : (t : List ℕ) → P.allowed t ↔ P'.allowed t
  pub rate : (t : List ℕ) → P.allowed t → P.rate t ≡ P'.rate t
  pub distortion : (t : List ℕ) → P.allowed t → P.distortion t ≡ P'.distortion t
  pub peak : (t : List ℕ) → P.allowed t → P.peak t ≡ P'.peak t

-- what a question has is what it had without weights: its problem, its checks, and of each call every answer with every byte that it leaves
pub record AsBefore (a : Asked) : Type 0 where
  pub problem : SameProblem (problem_of a) (plain_problem a)
  pub early : (further : Option Refusal) → early_refusal further a ≡ plain_refusal further a
  pub refused : (further : Option Refusal) (r : Refusal) → Unsound further a r ↔ PlainUnsound further a r
  pub passed : (further : Option Refusal) → Sound further a ↔ PlainSound further a
  pub ceiling : (X : ℕ) (plan scratch : List ℕ) (r : PlanAnswer) (p s : List ℕ) →
      CeilingPromise a X plan scratch r p s ↔ PlainCeiling a X plan scratch r p s
  pub multiplier : (n d : ℕ) (plan scratch : List ℕ) (r : PlanAnswer) (p s : List ℕ) →
      MultiplierPromise a n d plan scratch r p s ↔ PlainMultiplier a n d plan scratch r p s
  pub minmax : (B : ℕ) (plan scratch : List ℕ) (r : MinmaxAnswer) (p s : List ℕ) →
      MinmaxPromise a B plan scratch r p s ↔ PlainMinmax a B plan scratch r p s
  pub average : (B : ℕ) (plan scratch : List ℕ) (r : AverageAnswer) (p s : List ℕ) →
      AveragePromise a B plan scratch r p s ↔ PlainAverage a B plan scratch r p s
