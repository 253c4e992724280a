-- What the answers of the planning calls say: 8 and 9 exactly when true, and of an average plan all that demand 3 asks. Assumes nothing.
use Rattle.std.specs.Prelude.{Ok}
use Rattle.std.specs.Prelude.{◌≡◌, ◌↔◌, List, ℕ}
use Rattle.std.proofs.Math.Option.{Option}
use Rattle.criteria.specs.Choice.{Problem, NoneAllowed, NoneWithin}
use Rattle.criteria.specs.Demand.{Demand}
use Rattle.tables.specs.declared.refusal.Refusal.{Refusal}
use Rattle.tables.specs.declared.refusal.Refusal.TheVariants as refusal
use Rattle.tables.specs.Refusals.{Reply, refused}
use Rattle.checks.specs.Planning.{Asked, Sound, problem_of}
use Rattle.promise.specs.declared.AveragePlan.{AveragePlan}
use Rattle.promise.specs.Promise.{handed, IsAveragePlan, average_reply}

-- an answer, and what it leaves in the lent buffers, of which a promise is true
pub record SomeAnswer {Answer : Type 0} (promise : Answer → List ℕ → List ℕ → Type 0) : Type 0 where
  pub answer : Answer
  pub plan : List ℕ
  pub scratch : List ℕ
  pub promised : promise answer plan scratch

-- "'None within the limit' and 'none at all' are said exactly when true": of a question that passes the checks 1 to 7
pub record ExactlyOver (Passed : Type 0) (P : Problem) (within : List ℕ → Type 0) (reply : Reply) : Type 0 where
  pub eight : (reply ≡ refused refusal.NoSequence) ↔ (Passed × NoneAllowed P)
  pub nine : (reply ≡ refused refusal.NoneWithin) ↔ (Passed × NoneWithin P within)

abbrev pub SaysExactly : Option Refusal → Asked → (List ℕ → Type 0) → Reply → Type 0
SaysExactly further a within reply = ExactlyOver (Sound further a) (problem_of a) within reply

-- What an answer with an average plan tells; the plan buffer was `plan` before the call and is `plan'` after it.
pub record Answered (a : Asked) (B : ℕ) (m : AveragePlan) (plan plan' : List ℕ) : Type 0 where
  pub settings : List ℕ
  -- they are the average plan, and the values of the answer are its own
  pub is_plan : IsAveragePlan (problem_of a) B settings (average_reply (Ok m)).values
  -- they stand in the plan buffer
  pub handed_over : plan' ≡ handed a settings plan
  -- demand 3, of the multiplier and the floor of the answer
  pub demand : Demand (problem_of a) B m.n m.d m.floor.0 settings
