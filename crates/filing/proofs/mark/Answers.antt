-- `filing::mark` meets its contract: every weight that was passed is 1.
use mathlib.Core.Path.{sym, ◌∙◌}
use native.Mathlib.Omega.{arith}
use Rattle.filing.proofs.MarkLaws.{one_more, other_found, none_left}
use Rattle.filing.proofs.mark.Goals as goal

pub returns-then-weight-ne1 : goal.returns-then-weight-ne1
returns-then-weight-ne1 c =
    let l = c.loop-weight in
    sym (l.invariant ∙ other_found c.args.weights.now l.weight-index c.loop-weight-test.true c.if-weight-ne1.true)

pub loop-weight-preserved : goal.loop-weight-preserved
loop-weight-preserved c =
    let l = c.loop-weight in
    l.invariant ∙ one_more c.args.weights.now l.weight-index c.loop-weight-test.true c.if-weight-ne1.false

pub returns : goal.returns
returns c = sym (c.loop-weight.invariant ∙ none_left c.args.weights.now c.loop-weight.weight-index (omega (arith, c.loop-weight-test.false)))
