-- Demand 3 of every average plan that is given. Assumes nothing.
use Rattle.std.specs.Prelude.{Ok}
use mathlib.Core.Path.{◌≡◌, ap, ◌∙◌}
use mathlib.Core.Bool.{Bool}
use mathlib.Core.List.{List}
use Prim.Native.Nat.{ℕ}
use lib.ListN.{get_or}
use Rattle.criteria.specs.Demand.{Demand}
use Rattle.criteria.proofs.Demand.{demand}
use Rattle.tables.specs.declared.refusal.Refusal.TheVariants as refusal
use Rattle.tables.specs.Refusals.{Reply}
use Rattle.tables.specs.Law.{Tests}
use Rattle.checks.specs.Planning.{Asked, asking, table_of, problem_of}
use Rattle.tables.proofs.RefusalLaws.{answered_or_refused}
use Rattle.tables.proofs.LawLaws.{tested?, allows_law}
use Rattle.tables.proofs.Listing.{table_finite}
use Rattle.promise.specs.declared.AveragePlan.{AveragePlan}
use Rattle.promise.specs.Promise.{unsound, no_sequence, none_within, planned, IsAveragePlan, average_reply, AveragePromise}
use Rattle.promise.specs.Says.{Answered}

-- an average plan keeps demand 3
demand_kept : (a : Asked) {test : ℕ → ℕ → Bool} → Tests test a.law → {B : ℕ} {s v : List ℕ} (q : IsAveragePlan (problem_of a) B s v) →
    Demand (problem_of a) B q.n q.d q.floor s
demand_kept a tests q = demand (problem_of a) (table_finite (table_of a) (tested? tests)) q.plan q.proves

-- Every average plan that is given is the average plan, and its multiplier and its floor are the best any multiplier can prove, under any
-- law that has a test.
pub demand_answered_under : {a : Asked} {test : ℕ → ℕ → Bool} → Tests test a.law → {B : ℕ} {plan scratch plan' scratch' : List ℕ} (m : AveragePlan) →
    AveragePromise a B plan scratch (Ok m) plan' scratch' → Answered a B m plan plan'
demand_answered_under tests m (unsound {r = r} u e f g) = absurd (answered_or_refused r e)
demand_answered_under tests m (no_sequence o n e f g) = absurd (answered_or_refused refusal.NoSequence e)
demand_answered_under tests m (none_within o n e f g) = absurd (answered_or_refused refusal.NoneWithin e)
demand_answered_under {a} tests {B} m (planned o t v q e f g) =
    let w : (average_reply (Ok m)).values ≡ v = ap (λ (x : Reply). x.values) e in
    let z = w ∙ q.values in
    let en : m.n ≡ q.n = ap (λ (l : List ℕ). get_or l 0 0) z in
    let ed : m.d ≡ q.d = ap (λ (l : List ℕ). get_or l 1 0) z in
    let ef : m.floor.0 ≡ q.floor = ap (λ (l : List ℕ). get_or l 5 0) z in
    record {
      settings = t;
      is_plan = record { n = q.n; d = q.d; floor = q.floor; plan = q.plan; proves = q.proves; values = z };
      handed_over = f;
      demand = rw (en, ed, ef) (demand_kept a tests q);
    }

-- .. and so under every law by its number
pub demand_answered : (N Q law : ℕ) (rates distortions weights : List ℕ) (plan_room scratch_room : ℕ) {B : ℕ} {plan scratch plan' scratch' : List ℕ} (m : AveragePlan) →
    AveragePromise (asking N Q law rates distortions weights plan_room scratch_room) B plan scratch (Ok m) plan' scratch' →
    Answered (asking N Q law rates distortions weights plan_room scratch_room) B m plan plan'
demand_answered N Q law rates distortions weights plan_room scratch_room =
    demand_answered_under {a = asking N Q law rates distortions weights plan_room scratch_room} (allows_law law)
