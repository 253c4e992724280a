-- `imports::judge::judge_line` meets its contract: 18, where the cell is marked; the rest is found without an answer.
use mathlib.Core.Path.{sym, ◌∙◌}
use Rattle.std.proofs.lemmas.Result.{err_from_is_err_and}
use Rattle.checks.proofs.CheckLaws.{none_when}
use Rattle.imports.proofs.JudgeLaws.{judged_twice}
use Rattle.imports.proofs.judge.judge_line.Goals as goal

pub returns-in_err-unless-2 : goal.returns-in_err-unless-2
returns-in_err-unless-2 c =
    let p = err_from_is_err_and c.from_residual-in_err-unless-2.result c.from_residual-in_err-unless-2.ensures.1 in
    rw (p.1, p.2, c.in_ok-e.ensures.ok_part) (judged_twice (sym c.out_of_range.ensures ∙ none_when _ _ (sym c.in_ok-unless.ensures)) c.cell_of-at.ensures.0 c.in_err-unless-2.ensures)
