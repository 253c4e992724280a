-- `workbench::lines::put_planned` meets its contract: both lines are those of the tables that were read.
use Rattle.std.proofs.Common.{refl, ◌∙◌, ◌≤◌, arith}
use Rattle.checks.proofs.RangeLaws.{in_range}
use Rattle.promise.specs.Promise.{AveragePromise, MinmaxPromise}
use Rattle.printing.specs.Lines.{average_said, minmax_said}
use Rattle.workbench.proofs.LineLaws.{prefix_long, planned_line, read_requested, as_long, planned_put}
use Rattle.workbench.proofs.lines.put_planned.Goals as goal
use Rattle.workbench.proofs.lines.put_planned.Goals.{After-from-scans}

-- N is in range
small : (c : After-from-scans) → c.from-scans.result ≤ 1024
small c = rw c.from-scans.ensures ((in_range c.requires.planable.scans_in).1)

pub slice_bounds-ones-end : goal.slice_bounds-ones-end
slice_bounds-ones-end c = small (goal.at.slice_bounds-ones-end c).After-from-scans

pub slice_bounds-t-end-3 : goal.slice_bounds-t-end-3
slice_bounds-t-end-3 c = prefix_long _ _ (omega (arith, small (goal.at.slice_bounds-t-end-3 c).After-from-scans))

pub put_call-requires-clause-few : goal.put_call-requires-clause-few
put_call-requires-clause-few c = (small (goal.at.put_call-requires-clause-few c).After-from-scans, omega arith)

pub put_call-requires-2-clause-few : goal.put_call-requires-2-clause-few
put_call-requires-2-clause-few c = (small (goal.at.put_call-requires-2-clause-few c).After-from-scans, omega arith)

pub put_call-requires-2-clause-room : goal.put_call-requires-2-clause-room
put_call-requires-2-clause-room c = let l = c.put_call.ensures.line in omega (arith, l.short, as_long l.put)

pub returns : goal.returns
returns c =
    let n = small (goal.at.returns c).After-from-scans in
    record {
      same_buffer = c.put_call-2.ensures.same_buffer ∙ c.put_call.ensures.same_buffer;
      holds = planned_put c.requires.blank.0
          (read_requested c.args.taken.now.numbers.now c.args.cells c.from-scans.ensures c.from.ensures c.from-2.ensures c.from-budget.ensures)
          (planned_line AveragePromise average_said (λ l p s x p' s' k. k) (λ x y e. e) n refl c.put_call.ensures.line)
          (planned_line MinmaxPromise minmax_said (λ l p s x p' s' k. k) (λ x y e. e) n refl c.put_call-2.ensures.line) c.requires.blank.1;
    }
