-- `planner::ceiling::ceiling_plan` meets its contract: the checks, and the call where they pass.
use mathlib.Core.Path.{refl}
use mathlib.Core.Option.{none}
use Rattle.std.proofs.lemmas.Result.{err_from_is_err_and}
use Rattle.checks.proofs.GivenLaws.{of_checked, of_lent}
use Rattle.checks.specs.Planning.{Sound}
use Rattle.promise.specs.Promise.{CeilingPromise}
use Rattle.planner.proofs.PromiseLaws.{checked_refused}
use Rattle.planner.proofs.ceiling.ceiling_plan.Goals as goal

pub returns-in_err-t : goal.returns-in_err-t
returns-in_err-t c = let p = err_from_is_err_and c.from_residual.result c.from_residual.ensures.1 in rw (p.1, p.2) (checked_refused refl c.in_err-t.ensures.checked)

pub sound_ceiling-requires : goal.sound_ceiling-requires
sound_ceiling-requires c = of_checked (λ q. Sound none q) c.in_ok-t.ensures.same c.in_ok-t.ensures.checked

pub returns : goal.returns
returns c =
    let a = c.args in
    let r = c.sound_ceiling in
    of_lent (λ q. CeilingPromise q a.ceiling a.plan.now a.scratch.now r.result r.new.plan r.new.scratch) c.in_ok-t.ensures.same r.ensures
