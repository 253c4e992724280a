-- `walk::hand_over` meets its contract. The loop's invariant: the bytes of the plan before this scan's are those of the sequence,
-- the others as they were, and the choices from this scan on lead to the rest of it.
use mathlib.Core.Path.{◌≡◌, refl, ap, ◌∙◌}
use mathlib.Core.List.{List, ◌++◌}
use Prim.Native.Nat.{ℕ, ◌+◌, ◌-◌, ◌<◌}
use native.Mathlib.Omega.{arith}
use lib.ListN.{length, set, drop, length-set}
use lib.Seq.{take_all}
use Rattle.trellis.proofs.ChoiceLaws.{need_more}
use Rattle.trellis.specs.Choices.{choice, walk, chosen}
use Rattle.laws.proofs.Lists.{copy_more}
use Rattle.walk.proofs.WalkLaws.{length_walk, walk_on}
use Rattle.walk.proofs.hand_over.Goals as goal

pub loop-scan-init : goal.loop-scan-init
loop-scan-init c =
    let e : c.args.scans ≡ c.args.scans - 0 = omega arith in (
      omega arith,
      refl,
      refl,
      λ h. omega (arith, c.requires.by_index 0 h),
      ap (λ (n : ℕ). walk (choice c.args.settings c.args.scratch.now) n 0 0) e,
    )

pub read-q-requires : goal.read-q-requires
read-q-requires c =
    let h = c.loop-scan-test.true in record {
      settings_le_most_settings = (c.requires.scans_le_most_scans.1.0, (omega (arith, c.requires.scans_le_most_scans.0), c.loop-scan.invariant.3 h));
      settings_in_bounds = omega (arith, need_more c.args.scans c.args.settings c.loop-scan.scan h, c.requires.scans_le_most_scans.1.1.0);
    }

pub overflow_cast-plan : goal.overflow_cast-plan
overflow_cast-plan c = omega (arith, c.read-q.ensures.1)

pub loop-scan-preserved : goal.loop-scan-preserved
loop-scan-preserved c =
    let a = c.args in
    let l = c.loop-scan in
    let r = c.read-q.ensures.0 in
    let ch = choice a.settings a.scratch.now in
    let w = chosen a.settings a.scans a.scratch.now in
    let e = length_walk ch a.scans 0 0 in
    let h : l.scan < length w = omega arith in
    let o = walk_on ch (a.scans - l.scan) (a.scans - (l.scan + 1)) l.scan l.p w (omega arith) h l.invariant.4 in (
      omega arith,
      simp length-set l.invariant.1,
      ap (λ (z : List ℕ). set z l.scan c.read-q.result) l.invariant.2 ∙ copy_more l.scan _ w a.plan.now (r ∙ o.0) h (omega arith),
      λ _. rw (r, o.0) (c.requires.by_index l.scan c.loop-scan-test.true),
      rw r o.1,
    )

pub returns : goal.returns
returns c =
    let a = c.args in
    let w = chosen a.settings a.scans a.scratch.now in
    let e : c.loop-scan.scan ≡ a.scans = omega arith in
    let f = take_all a.scans w (omega (arith, length_walk (choice a.settings a.scratch.now) a.scans 0 0)) in
    (rw e at c.loop-scan.invariant.2) ∙ ap (λ (z : List ℕ). z ++ drop a.scans a.plan.now) f
