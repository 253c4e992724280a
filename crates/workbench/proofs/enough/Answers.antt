-- `workbench::enough` meets its contract: where its answer is true, nothing that follows matters.
use Rattle.std.proofs.Common.{refl, ◌∙◌, sym}
use borrow.Author.Tests.{le-leb}
use Rattle.workbench.proofs.RequestLaws.{enough_decides}
use Rattle.workbench.proofs.JudgeLaws.{head_settles}
use Rattle.workbench.proofs.enough.Goals as goal

pub returns-then-s-clause-decided : goal.returns-then-s-clause-decided
returns-then-s-clause-decided c = λ t. enough_decides c.args.numbers.now c.args.s c.requires (rw t refl)

pub returns-then-s-ge4-clause-decided : goal.returns-then-s-ge4-clause-decided
returns-then-s-ge4-clause-decided c = λ t.
    let a = c.args in
    enough_decides a.numbers.now a.s c.requires
    (rw (c.if-s.false, le-leb 4 a.s.taken c.if-s-ge4.true) (head_settles a.numbers.now c.first_four.result c.first_four.ensures ∙ sym c.is_err.ensures.value ∙ t))
