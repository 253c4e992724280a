-- `seek::finish::close` meets its contract: where the two ways meet, the plan is as it was or has the chosen sequence.
use mathlib.Core.Path.{◌≡◌, refl, sym, ap, ◌∙◌}
use mathlib.Core.Bool.{Bool, true, false, cond}
use mathlib.Core.List.{List, ◌++◌}
use Prim.Native.Nat.{ℕ, ◌≤◌}
use native.Mathlib.Omega.{arith}
use lib.ListN.{length, drop, length-append, length-drop}
use Rattle.trellis.specs.Choices.{choice, chosen}
use Rattle.walk.proofs.WalkLaws.{length_walk}
use Rattle.seek.proofs.finish.close.Goals as goal
use Rattle.seek.proofs.finish.close.Goals.{Joined-found, then-found, else-found}

-- the plan where the two ways meet
handed : (j : Joined-found) →
    let a = j.args in
    j.if-found.plan ≡ cond a.found (chosen a.settings a.scans a.scratch.now ++ drop a.scans a.plan.now) a.plan.now
handed j =
    let a = j.args in
    let by : Bool → List ℕ = λ b. cond b (chosen a.settings a.scans a.scratch.now ++ drop a.scans a.plan.now) a.plan.now in
    elim j.if-found.branch [
      | then-found w ↦ w.plan-is ∙ w.hand_over.ensures ∙ sym (ap by w.if-found.true)
      | else-found w ↦ w.plan-is ∙ sym (ap by w.if-found.false)
    ]

-- either way it is as long as it was
as_long : (b : Bool) (k : ℕ) (t plan : List ℕ) → length t ≡ k → k ≤ length plan → length (cond b (t ++ drop k plan) plan) ≡ length plan
as_long true k t plan e h = omega (arith, length-append t (drop k plan), length-drop k plan)
as_long false k t plan e h = refl

pub hand_over-requires : goal.hand_over-requires
hand_over-requires c =
    record {
      scans_le_most_scans = c.requires.scans_le_most_scans;
      by_index = c.requires.i_bound c.if-found.true;
    }

pub shape_of-plan : goal.shape_of-plan
shape_of-plan c =
    let a = c.args in
    ap length (handed (goal.at.shape_of-plan c).Joined-found)
    ∙ as_long a.found a.scans (chosen a.settings a.scans a.scratch.now) a.plan.now
    (length_walk (choice a.settings a.scratch.now) a.scans 0 0) c.requires.scans_le_most_scans.1.1.1

pub returns : goal.returns
returns c = record { handed = handed (goal.at.returns c).Joined-found; wiped = c.wipe.ensures }
