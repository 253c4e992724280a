-- A call over the front of a lent buffer is a call over the buffer, and what a planning call answers is told. Assumes nothing.
use mathlib.Core.Path.{◌≡◌, refl, ap, ◌∙◌}
use mathlib.Core.Bool.{Bool}
use mathlib.Core.Option.{Option, none, some}
use mathlib.Core.List.{List, ◌++◌}
use Prim.Native.Nat.{ℕ, ◌*◌, ◌≤◌}
use lib.ListN.{length, take, drop}
use native.Mathlib.Omega.{arith}
use lib.Dec.{ltb}
use Rattle.criteria.specs.Choice.{Problem}
use Rattle.tables.specs.declared.refusal.Refusal.{Refusal}
use Rattle.tables.specs.declared.refusal.Refusal.TheVariants as refusal
use Rattle.tables.specs.Limits.{most_short_budget}
use Rattle.tables.specs.Refusals.{Reply}
use Rattle.planfile.specs.Reading.{entries, fields_of, read_refusal, settings_after}
use Rattle.blocks.specs.File.{entry_at}
use Rattle.planfile.proofs.Accepted.{passed}
use Rattle.promise.specs.Answers.{PlanAnswer}
use Rattle.promise.specs.Promise.{PromiseOver, Promise, unsound, no_sequence, none_within, planned, plan_reply}
use Rattle.tables.specs.Law.{Law}
use Rattle.checks.specs.Planning.{Asked, asking_under}
use Rattle.checks.proofs.GiveLaws.{Gives, gives_when}
use Rattle.checks.proofs.PlanningLaws.{sound_fit, sound_plan}
use Rattle.best.specs.Best.{BestPromise}
use Rattle.best.proofs.CallLaws.{ready}
use Rattle.telling.specs.Told.{Told, lent}
use Rattle.telling.specs.Parts.{Tellable}
use Rattle.telling.proofs.AnswerLaws.{tellable_as, told_as}
use Rattle.qpl.specs.Surface.{Tells}
use Rattle.lastly.proofs.CarryLaws.{Little}
use Rattle.lastly.proofs.FrontLaws.{same_front, handed_front, front_length}
use Rattle.qpl.proofs.CarryLaws.{unsound_light, promise_tellable}

-- a planning call
pub promise_whole : {a : Asked} {Refused : Refusal → Type 0} {Passed : Type 0} {P : Problem} {within : List ℕ → Type 0} {Plan : List ℕ → List ℕ → Type 0}
    {Same Cleared : Type 0} {p : List ℕ} {reply : Reply} (room : ℕ) (plan : List ℕ) → (Passed → a.N ≤ length (take room plan)) →
    PromiseOver a Refused Passed P within Plan Same Cleared (take room plan) reply p →
    PromiseOver a Refused Passed P within Plan Same Cleared plan reply (p ++ drop room plan)
promise_whole room plan h (unsound {r = r} u e f g) = unsound {r = r} u e (same_front room plan f) g
promise_whole room plan h (no_sequence o n e f g) = no_sequence o n e (same_front room plan f) g
promise_whole room plan h (none_within o n e f g) = none_within o n e (same_front room plan f) g
promise_whole {a = a} room plan h (planned o t v q e f g) = planned o t v q e (handed_front room a.N t plan (h o) f) g

-- A planning call over the room that is lent: `given` is its answer, and `reply` is told of it.
module _ {A : Type 0} (reply_of : A → Reply) (given : A) (need : ℕ) (answer plan : List ℕ) {further : Option Refusal} {lawless : Bool} {law : Law} {N Q S room : ℕ}
    {R D W scratch p s : List ℕ} {within : List ℕ → Type 0} {Plan : List ℕ → List ℕ → Type 0} {reply : Reply}
    (lends : (room ≡ lent need (length answer) (length plan)) × (room ≤ length plan))
    (promise : Promise further (asking_under lawless law N Q R D W (length (take room plan)) S) within Plan (take room plan) scratch (reply_of given) p s)
    (said : reply ≡ reply_of given) where
  -- it can be told
  pub planning_tellable : Gives Little further → ((t v : List ℕ) → Plan t v → 8 * length v ≤ need) → Tellable reply (length answer)
  planning_tellable little fits = tellable_as said (promise_tellable need (length answer) (length plan) (λ r. unsound_light (omega arith) little)
      (λ o. omega (arith, sound_plan o, (sound_fit o).some_scans)) fits (front_length plan lends) promise)

  -- and once it is told, the call over the whole buffer has kept its promise
  pub planning_tells : {word : ℕ} {answer' : List ℕ} → Told reply answer word answer' →
      Tells reply_of (λ a. Promise further (asking_under lawless law N Q R D W (lent need (length answer) (length plan)) S) within Plan plan scratch (reply_of a)
      (p ++ drop room plan) s) answer word answer'
  planning_tells {word} {answer'} told = record {
    given = given;
    kept = rw (front_length plan lends) at (promise_whole room plan sound_plan promise);
    told = told_as answer word answer' said told;
  }

-- The true best over the room that is lent.
module _ (given : PlanAnswer) (answer plan : List ℕ) {lawless : Bool} {law : Law} {N Q S B room : ℕ} {R D W choices cells p choices' cells' : List ℕ} {reply : Reply}
    (lends : (room ≡ lent 24 (length answer) (length plan)) × (room ≤ length plan))
    (promise : BestPromise (asking_under lawless law N Q R D W (length (take room plan)) S) B (take room plan) choices cells given p choices' cells')
    (said : reply ≡ plan_reply given) where
  pub best_tellable : Tellable reply (length answer)
  best_tellable = tellable_as said (promise_tellable 24 (length answer) (length plan)
      (λ r. unsound_light (omega arith) (gives_when Little (ltb most_short_budget B) refusal.Budget (omega arith)))
      (λ o. let k = ready o in omega (arith, k.plan_room, k.fit.some_scans)) (λ t v q. omega (arith, ap length q.1)) (front_length plan lends) promise)

  pub best_tells : {word : ℕ} {answer' : List ℕ} → Told reply answer word answer' →
      Tells plan_reply (λ a. BestPromise (asking_under lawless law N Q R D W (lent 24 (length answer) (length plan)) S) B plan choices cells a
      (p ++ drop room plan) choices' cells') answer word answer'
  best_tells {word} {answer'} told = record {
    given = given;
    kept = rw (front_length plan lends) at (promise_whole room plan (λ o. (ready o).plan_room) promise);
    told = told_as answer word answer' said told;
  }

-- the reader's settings
pub read_whole : (file settings : List ℕ) (room : ℕ) {m : ℕ} {p : List ℕ} → length (take room settings) ≡ m →
    p ≡ settings_after (read_refusal file (length (take room settings))) file (take room settings) →
    p ++ drop room settings ≡ settings_after (read_refusal file m) file settings
read_whole file settings room {p = p} e f =
    of (read_refusal file (length (take room settings))) refl f
    ∙ ap (λ (k : ℕ). settings_after (read_refusal file k) file settings) e
  where
    of : (o : Option Refusal) → read_refusal file (length (take room settings)) ≡ o → p ≡ settings_after o file (take room settings) →
        p ++ drop room settings ≡ settings_after o file settings
    of none g f = handed_front room (fields_of file).scans (entries (entry_at file) 0 (fields_of file).scans) settings
        (passed file (length (take room settings)) g).enough f
    of (some r) g f = same_front room settings f
