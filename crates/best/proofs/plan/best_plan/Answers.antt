-- `best::plan::best_plan` meets its contract: the checks, and the call where they pass.
use mathlib.Core.Path.{refl}
use lib.ListN.{length}
use Rattle.std.proofs.lemmas.Result.{err_from_is_err_and}
use Rattle.checks.proofs.GivenLaws.{of_checked, of_lent}
use Rattle.promise.specs.Promise.{unsound}
use Rattle.best.specs.Best.{BestSound, BestPromise}
use Rattle.best.proofs.plan.best_plan.Goals as goal

pub returns-in_err-t : goal.returns-in_err-t
returns-in_err-t c = let p = err_from_is_err_and c.from_residual.result c.from_residual.ensures.1 in rw (p.1, p.2) (unsound c.in_err-t.ensures.checked refl refl (refl, refl))

pub sound_best-requires : goal.sound_best-requires
sound_best-requires c = of_checked (λ q. BestSound q c.args.budget (length c.args.cells.now)) c.in_ok-t.ensures.same c.in_ok-t.ensures.checked

pub returns : goal.returns
returns c =
    let a = c.args in
    let r = c.sound_best in
    of_lent (λ q. BestPromise q a.budget a.plan.now a.choices.now a.cells.now r.result r.new.plan r.new.choices r.new.cells) c.in_ok-t.ensures.same r.ensures
