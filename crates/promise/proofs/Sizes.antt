-- No call gives 5 or 6 where its tables and weights have their exact length and its buffers are long enough. Assumes nothing.
use mathlib.Core.Path.{◌≡◌}
use mathlib.Core.Bool.{Bool, true, false}
use mathlib.Core.Option.{Option}
use mathlib.Core.List.{List}
use Prim.Native.Nat.{ℕ, ◌≤◌}
use native.Mathlib.Omega.{arith}
use lib.ListN.{length}
use borrow.Author.Tests.{eq-eqb, le-ltb}
use Rattle.laws.proofs.Tests.{never}
use Rattle.tables.specs.declared.refusal.Refusal.{Refusal}
use Rattle.tables.specs.declared.refusal.Refusal.TheVariants as refusal
use Rattle.tables.specs.Refusals.{Reply, number_of}
use Rattle.tables.specs.Limits.{most_scans}
use Rattle.tables.specs.Tables.{cells, scratch_need}
use Rattle.checks.specs.Checks.{when}
use Rattle.checks.specs.Planning.{Asked, Unsound, early, illegal, first_early, planning_checks, sizes_out, scans_out, settings_out, buffers_short, multiplier_out, fourth_check}
use Rattle.checks.proofs.GiveLaws.{Gives, given, gives_when, gives_first}
use Rattle.promise.specs.Promise.{Promise, unsound, no_sequence, none_within, planned}

-- the tables, the weights and the lent buffers of a call are of the sizes that it needs
pub record SizesFit (a : Asked) : Type 0 where
  pub rates_long : length a.rates ≡ cells a.N a.Q
  pub distortions_long : length a.distortions ≡ cells a.N a.Q
  pub weights_long : length a.weights ≡ a.N
  pub plan_room : a.N ≤ a.plan
  pub scratch_room : scratch_need a.N a.Q ≤ a.scratch

-- a number that is neither 5 nor 6
abbrev pub NotFiveOrSix : ℕ → Type 0
NotFiveOrSix k = (k ≡ 5 → ⊥) × (k ≡ 6 → ⊥)

-- a refusal whose number is neither
abbrev pub NotBySize : Refusal → Type 0
NotBySize r = NotFiveOrSix (number_of r)

-- so it is of every refusal below 5, and of every one above 6
pub below_five : {k : ℕ} → k ≤ 4 → NotFiveOrSix k
below_five h = (λ z. omega arith, λ z. omega arith)

pub above_six : {k : ℕ} → 7 ≤ k → NotFiveOrSix k
above_six h = (λ z. omega arith, λ z. omega arith)

-- where the sizes fit, the checks 5 and 6 pass
lengths_pass : {a : Asked} → SizesFit a → sizes_out a ≡ false
lengths_pass {a} s = rw (eq-eqb _ _ s.rates_long, eq-eqb _ _ s.distortions_long, eq-eqb _ _ s.weights_long)

buffers_pass : {a : Asked} → SizesFit a → buffers_short a.N a.Q a.plan a.scratch ≡ false
buffers_pass {a} s = rw (le-ltb _ _ s.plan_room, le-ltb _ _ s.scratch_room)

-- a test that does not hold refuses nothing
gives_not : (P : Refusal → Type 0) (t : Bool) (r : Refusal) → t ≡ false → Gives P (when t r)
gives_not P true r e = never cc
gives_not P false r e = tt

-- so the first refusal of the checks 1 to 7 is neither
first_not_by_size : {further : Option Refusal} {a : Asked} {r : Refusal} → Gives NotBySize further → SizesFit a → Unsound further a r → NotBySize r
unfolding first_early
first_not_by_size {further} {a} f s (early e) =
    given NotBySize (gives_first NotBySize (planning_checks most_scans a.N a.Q a.lawless further (sizes_out a) (buffers_short a.N a.Q a.plan a.scratch)) (
      gives_when NotBySize (scans_out a.N) refusal.Scans (below_five (omega arith)),
      (
        gives_when NotBySize (settings_out a.Q) refusal.Settings (below_five (omega arith)),
        (
          gives_when NotBySize a.lawless refusal.StepLaw (below_five (omega arith)),
          (
            f,
            (
              gives_not NotBySize (sizes_out a) refusal.Lengths (lengths_pass s),
              (gives_not NotBySize (buffers_short a.N a.Q a.plan a.scratch) refusal.Buffer (buffers_pass s), tt),
            ),
          ),
        ),
      ),
    )) e
first_not_by_size f s (illegal e l) = above_six (omega arith)

-- check 4, where a call has it, gives neither
pub fourth_not_by_size : (n d : ℕ) → Gives NotBySize (fourth_check n d)
fourth_not_by_size n d = gives_when NotBySize (multiplier_out n d) refusal.Multiplier (below_five (omega arith))

-- Neither 5 nor 6 is given by a call whose sizes fit, where its further check gives neither.
pub never_by_size : {further : Option Refusal} {a : Asked} {within : List ℕ → Type 0} {Plan : List ℕ → List ℕ → Type 0} {plan scratch p s : List ℕ}
    {reply : Reply} → Gives NotBySize further → SizesFit a → Promise further a within Plan plan scratch reply p s → NotFiveOrSix reply.number
never_by_size f z (unsound u e g h) = rw e (first_not_by_size f z u)
never_by_size f z (no_sequence o n e g h) = rw e (above_six (omega arith))
never_by_size f z (none_within o n e g h) = rw e (above_six (omega arith))
never_by_size f z (planned o t v q e g h) = rw e (below_five (omega arith))
