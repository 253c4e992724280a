-- `workbench::judge::Taken::judge` meets its contract: what the first four numbers settle, or else the rest.
use Rattle.std.proofs.Common.{sym, ◌∙◌}
use Rattle.std.proofs.lemmas.Result.{err_from_is_err_and}
use Rattle.workbench.proofs.JudgeLaws.{few_requested, unplanned_requested, ready_requested, unread_requested}
use Rattle.workbench.proofs.judge.Taken.judge.Goals as goal

pub returns-then-self-lt4 : goal.returns-then-self-lt4
returns-then-self-lt4 c = let t = c.args.self.now in few_requested t.numbers.now t.state t.roomy c.if-self-lt4.true

pub returns-in_err-cells : goal.returns-in_err-cells
returns-in_err-cells c =
    let t = c.args.self.now in
    let p = err_from_is_err_and c.from_residual.result c.from_residual.ensures.1 in
    rw (p.1, p.2) (unplanned_requested t.numbers.now t.state t.roomy _ c.if-self-lt4.false c.in_err-cells.ensures)

pub returns-then-not-all_read : goal.returns-then-not-all_read
returns-then-not-all_read c =
    let t = c.args.self.now in
    unread_requested t.numbers.now t.state t.roomy c.if-self-lt4.false c.in_ok-cells.ensures (sym c.all_read.ensures ∙ c.if-not-all_read.true)

pub returns : goal.returns
returns c =
    let t = c.args.self.now in (
      c.in_ok-cells.ensures,
      ready_requested t.numbers.now t.state t.roomy c.if-self-lt4.false c.in_ok-cells.ensures (sym c.all_read.ensures ∙ c.if-not-all_read.false),
    )
