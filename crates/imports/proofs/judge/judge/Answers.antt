-- `imports::judge::judge` meets its contract: what is found in the lines that are left is what is found in all.
use mathlib.Core.Path.{ap}
use native.Mathlib.Omega.{arith}
use lib.ListN.{length}
use Rattle.tables.specs.Refusals.{ended}
use Rattle.imports.proofs.LeftLaws.{said_few}
use Rattle.imports.proofs.JudgeLaws.{judging_starts, judging_goes_on}
use Rattle.imports.proofs.judge.judge.Goals as goal

pub loop-line-init : goal.loop-line-init
loop-line-init c =
    let a = c.args in (
      tt,
      (
        tt,
        rw (c.into_iter-line-iterator.ensures.into_iter_gives, c.lines_of-line-items.ensures)
            (judging_starts a.size.scans a.size.settings a.text.now a.scratch.now c.requires.marks),
      ),
    )

pub overflow_add-k : goal.overflow_add-k
overflow_add-k c = omega (arith, said_few c.args.text.now, c.loop-line.invariant.1.1.count, ap length c.in-Some.ensures.steps)

pub loop-line-preserved : goal.loop-line-preserved
loop-line-preserved c =
    (tt, (tt, judging_goes_on (rw c.in-Some.ensures.steps at c.loop-line.invariant.1.1) c.judge_line.ensures (ap ended c.in_ok-judge_line.was)))
