-- `legal::judge_run` meets its contract. The loop's invariant: what is kept is the lowest illegal cell of those passed, or "no cell".
use Prim.Native.Nat.{◌+◌}
use native.Mathlib.Omega.{arith}
use Rattle.legal.specs.Judged.{LowestInRun, run_illegal}
use Rattle.legal.proofs.CellTests.{of_weight}
use Rattle.legal.proofs.RunLaws.{none_yet, one_cell_more, run_all_legal, run_lowest}
use Rattle.legal.proofs.judge_run.Goals as goal
use Rattle.legal.proofs.judge_run.Goals.{Else-lowest}

pub loop-far-init : goal.loop-far-init
loop-far-init c = none_yet _ _ _ _

pub if_illegal-kept-requires : goal.if_illegal-kept-requires
if_illegal-kept-requires c = let e = c.heavy-tested.ensures in (omega (arith, e), omega (arith, e))

pub loop-far-preserved : goal.loop-far-preserved
loop-far-preserved c = rw c.min-lowest.ensures (one_cell_more _ _ _ (omega arith) c.loop-far.invariant (of_weight (rw c.heavy-tested.ensures at c.if_illegal-kept.ensures)))

-- the lowest that was kept, where one was, is a cell of the run
lowest_kept : (c : Else-lowest) →
    let a = c.args in
    LowestInRun (λ k. a.weight) a.rates.now a.distortions.now a.from a.to (a.from + c.loop-far.lowest)
lowest_kept c = run_lowest _ _ _ c.loop-far.invariant (omega arith) c.if-lowest.false

pub returns-then-lowest : goal.returns-then-lowest
returns-then-lowest c = run_all_legal _ _ _ c.loop-far.invariant (omega arith) (omega arith) c.if-lowest.true

pub overflow_cast-result : goal.overflow_cast-result
overflow_cast-result c = omega (arith, (lowest_kept (goal.at.overflow_cast-result c).Else-lowest).inside)

pub overflow_add-result : goal.overflow_add-result
overflow_add-result c = omega (arith, (lowest_kept (goal.at.overflow_add-result c).Else-lowest).inside)

pub returns : goal.returns
returns c = run_illegal (lowest_kept (goal.at.returns c).Else-lowest)
