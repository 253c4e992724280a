-- `lastly::asked_last` meets its contract: the answer buffer is one more check behind those of a call.
use mathlib.Core.Path.{refl}
use mathlib.Core.Option.{none, some}
use mathlib.Core.List.{[]}
use Rattle.std.proofs.lemmas.Result.{err_from_is_err_and}
use Rattle.lastly.proofs.LastLaws.{last_told}
use Rattle.lastly.proofs.asked_last.Goals as goal

pub returns-in_err-values : goal.returns-in_err-values
returns-in_err-values g c =
    let p = err_from_is_err_and c.from_residual.result c.from_residual.ensures.1 in
    rw (p.1, p.2, c.in_err-values.was) (last_told c.args.need c.args.answer (some _) [] refl)

pub returns-in_err-unless : goal.returns-in_err-unless
returns-in_err-unless g c =
    let p = err_from_is_err_and c.from_residual-in_err-unless.result c.from_residual-in_err-unless.ensures.1 in
    rw (p.1, p.2, c.in_ok-values.was) (last_told c.args.need c.args.answer none c.in_ok-values.values c.in_err-unless.ensures)

pub returns : goal.returns
returns g c = rw c.in_ok-values.was (last_told c.args.need c.args.answer none c.in_ok-values.values c.in_ok-unless.ensures)
